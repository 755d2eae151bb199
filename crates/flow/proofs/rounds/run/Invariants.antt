use Rattle.std.proofs.Common.{◌-◌}
use Rattle.flow.specs.Lists.{at}
use Rattle.flow.specs.Memory.{Kept}
use Rattle.flow.proofs.Running.{Running}
use Rattle.flow.proofs.rounds.run.Given as goal

abbrev pub invariant-loop-flow : goal.invariant-loop-flow
invariant-loop-flow g l = Kept (g.G.Network.net l.network) l.initial.memory l.memory × Running (g.G.Network.net l.network) g.start (at l.flow) (at l.memory.mark.now) l.rounds

abbrev pub decreases-loop-flow : goal.decreases-loop-flow
decreases-loop-flow g l = (g.G.Network.net l.network).nodes - l.rounds
