use Rattle.std.proofs.Common.{◌-◌}
use Rattle.flow.specs.Lists.{at}
use Rattle.flow.specs.Memory.{Kept}
use Rattle.flow.specs.Search.{Bfs}
use Rattle.flow.proofs.residual.Residual.layers.Given as goal

abbrev pub invariant-loop-done : goal.invariant-loop-done
invariant-loop-done g l =
    Kept (g.G.Network.net l.self.network.now) l.initial.memory l.memory × Bfs (g.G.Network.net l.self.network.now) (at l.self.flow.now) (at l.memory.mark.now) (at l.memory.queue.now) l.done l.count

abbrev pub decreases-loop-done : goal.decreases-loop-done
decreases-loop-done g l = (g.G.Network.net l.self.network.now).nodes - l.done
