use Rattle.std.proofs.Common.{◌≡◌, ◌+◌, ◌-◌, ◌*◌}
use Rattle.network.specs.Sums.{sum_over}
use Rattle.flow.specs.Lists.{at}
use Rattle.flow.specs.Blocking.{Walking}
use Rattle.flow.proofs.residual.Residual.descend.Given as goal

abbrev pub invariant-loop-v : goal.invariant-loop-v
invariant-loop-v g l = Walking (g.G.Network.net l.self.network.now) (g.G.Network.deg l.self.network.now) (g.G.Network.inc l.self.network.now) (at l.self.flow.now) (at l.mark) (at l.cursor) (at l.path) (at l.stack) l.d × (l.v ≡ at l.stack l.d)

abbrev pub decreases-loop-v : goal.decreases-loop-v
decreases-loop-v g l = 2 * (sum_over (g.G.Network.net l.self.network.now).nodes (g.G.Network.deg l.self.network.now) - sum_over (g.G.Network.net l.self.network.now).nodes (at l.cursor)) + ((g.G.Network.net l.self.network.now).nodes - l.d)
