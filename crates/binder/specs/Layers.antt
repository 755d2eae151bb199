-- To believe: what an exclusion makes of the binder below it, and what a pair makes of its two binders.

use Rattle.std.specs.Prelude.{ℕ, ◌-◌, Bool, cond, not, ◌&&◌, nat_lt}
use Rattle.binder.specs.Meaning.{Meaning}

-- what m means, without the lots of the issuers in a set
abbrev pub without : (ℕ → Bool) → Meaning → Meaning
without issuers m = record {
  held = m.held;
  admits = λ n d. m.admits n d && not (issuers d.issuer);
  share = m.share;
}

-- the number n is that of the first binder below k, and the second's n - k from k to 15
abbrev pub joined : ℕ → Meaning → Meaning → Meaning
joined k a b = record {
  held = λ n. cond (nat_lt n k) (a.held n) (nat_lt n 16 && b.held (n - k));
  admits = λ n d. cond (nat_lt n k) (a.admits n d) (nat_lt n 16 && b.admits (n - k) d);
  share = λ n i. cond (nat_lt n k) (a.share n i) (cond (nat_lt n 16) (b.share (n - k) i) 0);
}
