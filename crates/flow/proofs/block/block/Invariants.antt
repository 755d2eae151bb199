use Rattle.std.proofs.Common.{◌≡◌}
use Rattle.flow.specs.Lists.{at}
use Rattle.flow.specs.Memory.{Kept}
use Rattle.flow.proofs.Sending.{Filling, slack}
use Rattle.flow.proofs.block.block.Given as goal

abbrev pub invariant-loop-d : goal.invariant-loop-d
invariant-loop-d g l =
    Kept (g.G.Network.net l.network) l.initial.memory l.memory × (l.memory.mark.now ≡ l.initial.memory.mark.now) × Filling (g.G.Network.net l.network) (g.G.Network.deg l.network) (g.G.Network.inc l.network) (at l.initial.flow) (at l.flow) (at l.memory.mark.now) (at l.memory.cursor.now) (at l.memory.path.now) (at l.memory.queue.now) l.start

abbrev pub decreases-loop-d : goal.decreases-loop-d
decreases-loop-d g l = slack (g.G.Network.net l.network) (at l.flow)
