use Rattle.std.proofs.Common.{◌≡◌, ℕ, ◌<◌}
use Rattle.table.specs.Drawn.{arc, cap_of}
use Rattle.cover.specs.View.{at}
use Rattle.cover.specs.Seen.{seen}
use Rattle.cover.proofs.problem.Problem.capacities.Given as goal

abbrev pub invariant-loop-k : goal.invariant-loop-k
invariant-loop-k l = (k : ℕ) → k < l.k → at l.capacity-items k ≡ cap_of (seen l.self) (arc k)
