-- To believe: what counting one trial does.

use Rattle.std.specs.Prelude.{◌≡◌, ℕ, ◌+◌, ◌-◌, ◌^◌, Bool, true, false, Option, None, Some, min}
use Rattle.tally.specs.declared.Tally.{Tally}

-- the largest count that a tally holds
abbrev pub most : ℕ
most = 2 ^ 64 - 1

-- the number of the first wrong trial, where the trial in hand, of number n, is wrong
abbrev pub first : Option ℕ → ℕ → Option ℕ
first None n = Some n
first (Some k) n = Some k

-- one more is right, or one more is wrong, and then the first wrong one is known
abbrev pub Counted : Tally → Bool → Tally → Type 0
Counted old true new = new ≡ record { right = min (old.right + 1) most; wrong = old.wrong; first_wrong = old.first_wrong }
Counted old false new = new ≡ record {
  right = old.right;
  wrong = min (old.wrong + 1) most;
  first_wrong = first old.first_wrong (min (old.right + min (old.wrong + 1) most) most);
}
