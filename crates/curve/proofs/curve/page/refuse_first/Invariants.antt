use Rattle.std.proofs.Common.{ℕ, ◌<◌, false}
use Rattle.curve.proofs.curve.page.refuse_first.Given as goal

abbrev pub invariant-loop-point : goal.invariant-loop-point
invariant-loop-point g l = (j : ℕ) → j < l.point → goal.F-post g l.breaks j false
