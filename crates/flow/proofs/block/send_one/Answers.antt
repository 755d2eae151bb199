use Rattle.std.proofs.Common.{◌/◌, arith}
use Rattle.flow.proofs.Sending.{then_fits, else_fits, then_pushed, else_pushed}
use Rattle.flow.proofs.block.send_one.Goals as goal

pub overflow_add-flow : goal.overflow_add-flow
overflow_add-flow g c =
    let h = then_fits (g.G.Network.net c.args.network.now) c.args.flow.now c.args.a c.args.x c.requires.sizes.0 c.requires.sizes.1 c.requires.fits c.requires.within c.if-a-eq0.true in
    omega (arith, h, (g.met.G.Network.lawful c.args.network.now).small (c.args.a / 2) (omega (arith, c.requires.sizes.1)))

pub overflow_sub-flow : goal.overflow_sub-flow
overflow_sub-flow g c = else_fits (g.G.Network.net c.args.network.now) c.args.flow.now c.args.a c.args.x c.requires.sizes.0 c.requires.sizes.1 c.requires.fits c.requires.within c.if-a-eq0.false

pub returns-then-a-eq0 : goal.returns-then-a-eq0
returns-then-a-eq0 g c = then_pushed (g.G.Network.net c.args.network.now) c.args.flow.now c.args.a c.args.x c.requires.sizes.0 c.requires.sizes.1 c.requires.fits c.requires.within c.if-a-eq0.true

pub returns-else-a-eq0 : goal.returns-else-a-eq0
returns-else-a-eq0 g c = else_pushed (g.G.Network.net c.args.network.now) c.args.flow.now c.args.a c.args.x c.requires.sizes.0 c.requires.sizes.1 c.requires.fits c.requires.within c.if-a-eq0.false
