use Rattle.std.proofs.Common.{◌≡◌, ℕ, ◌<◌}
use Rattle.table.specs.Drawn.{slot}
use Rattle.cover.specs.View.{at}
use Rattle.cover.specs.Seen.{seen}
use Rattle.cover.specs.Drawing.{First}
use Rattle.cover.proofs.problem.Problem.slots.Given as goal

abbrev pub invariant-loop-l : goal.invariant-loop-l
invariant-loop-l l = First (seen l.self) l.first l.l × ((k : ℕ) → k < l.l → at l.slot-items k ≡ slot (seen l.self) k)
