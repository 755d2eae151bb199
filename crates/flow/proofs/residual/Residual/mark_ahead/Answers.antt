use Rattle.std.proofs.Common.{refl, arith}
use Rattle.flow.proofs.Blocking.{listed_target}
use Rattle.flow.proofs.residual.Residual.mark_ahead.Goals as goal

pub offset_bounds-mark-target : goal.offset_bounds-mark-target
offset_bounds-mark-target g c = let h = listed_target (g.met.G.Network.lawful c.args.self.now.network.now) c.requires.0 refl c.requires.1 c.target.ensures in omega (arith, h)

pub bounds-mark-target : goal.bounds-mark-target
bounds-mark-target g c = let h = listed_target (g.met.G.Network.lawful c.args.self.now.network.now) c.requires.0 refl c.requires.1 c.target.ensures in omega (arith, h, c.requires.2)
