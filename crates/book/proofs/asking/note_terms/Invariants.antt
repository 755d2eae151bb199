use Rattle.std.proofs.Common.{◌≡◌, ℕ, ◌/◌, ◌%◌, ◌<◌}
use Rattle.cover.specs.View.{terms_at}
use Rattle.calls.specs.State.{lot_at, exposure_at}
use Rattle.book.specs.Asked.{terms_for}
use Rattle.book.proofs.asking.note_terms.Given as goal

abbrev pub invariant-loop-k : goal.invariant-loop-k
invariant-loop-k g l = record {
  lots : l.problem.lots ≡ l.fn.problem.lots;
  exposures : l.problem.exposures ≡ l.fn.problem.exposures;
  asked : (k : ℕ) → k < l.k → terms_at l.problem.admitted l.problem.limits k ≡ terms_for (g.B.Binder.meaning l.binder) (lot_at l.lots (k / 16)) (exposure_at l.exposures (k % 16));
}
