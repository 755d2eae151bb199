use Rattle.std.proofs.Common.{◌≡◌, ℕ, ◌<◌, length}
use Rattle.cover.specs.View.{flag}
use Rattle.cover.proofs.note.word.Given as goal

abbrev pub invariant-loop-p : goal.invariant-loop-p
invariant-loop-p g l = (length l.flag-items ≡ l.p-end) × ((k : ℕ) → k < l.p → goal.F-post g l.marked k (flag l.flag-items k))
