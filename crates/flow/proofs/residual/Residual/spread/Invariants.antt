use Rattle.flow.specs.Lists.{at}
use Rattle.flow.proofs.Bfs.{Spreading}
use Rattle.flow.proofs.residual.Residual.spread.Given as goal

abbrev pub invariant-loop-i : goal.invariant-loop-i
invariant-loop-i g l = Spreading (g.G.Network.net l.self.network.now) (g.G.Network.inc l.self.network.now) (at l.self.flow.now) (at l.mark) (at l.queue) l.done l.count l.v l.layer l.i
