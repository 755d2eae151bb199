use Rattle.std.proofs.Common.{◌≡◌, ◌≤◌, is_some, get_or, None}
use Rattle.calls.specs.Call.{count}
use Rattle.book.proofs.pledges.filled.Given as goal

abbrev pub invariant-loop-place : goal.invariant-loop-place
invariant-loop-place g l = (l.count ≡ count l.place-index (λ k. is_some (get_or l.places k None))) × (l.count ≤ l.place-index)
