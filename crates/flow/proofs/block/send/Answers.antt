use Rattle.std.proofs.Common.{◌<◌, subst, arith, length-take-le, get_or-take}
use Rattle.network.specs.Augment.{Pushed}
use Rattle.network.proofs.Augment.{send_more}
use Rattle.flow.specs.Lists.{at}
use Rattle.flow.proofs.block.send.Goals as goal

pub loop-a-preserved : goal.loop-a-preserved
loop-a-preserved g c =
    let l : c.loop-a.a-index < c.args.d = omega (arith, c.loop-a-test.true, length-take-le c.args.d c.args.memory.now.path.now c.requires.sizes.1) in
    send_more _ _ _ _ _ _ c.requires.first c.requires.trail _ _ _ l c.loop-a.invariant
    (subst (λ a. Pushed (g.G.Network.net c.args.network.now) (at c.loop-a.flow) (at c.send_one.new.flow) a c.args.x) (get_or-take c.args.d c.args.memory.now.path.now _ 0 l) c.send_one.ensures)
