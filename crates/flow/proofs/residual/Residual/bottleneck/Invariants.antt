use Rattle.std.proofs.Common.{max}
use Rattle.flow.specs.Lists.{at}
use Rattle.flow.specs.Blocking.{Least}
use Rattle.flow.proofs.residual.Residual.bottleneck.Given as goal

abbrev pub invariant-loop-i : goal.invariant-loop-i
invariant-loop-i g l = Least (g.G.Network.net l.self.network.now) (at l.self.flow.now) (at l.memory.path.now) (max l.i 1) l.least l.first
