-- A table after the pledges to one exposure were zeroed.

use Rattle.std.proofs.Common.{◌≡◌, ℕ, zero, suc, ◌+◌, ◌*◌, ◌<◌, ◌≢◌, List, [], ◌∷◌, get_or, set, replicate, refl, inl, inr, arith}
use Rattle.std.proofs.lemmas.Bool.{cases_eq}
use Rattle.std.proofs.lemmas.List.{get_or-set_other}
use Rattle.calls.specs.State.{table}
use Rattle.calls.specs.Step.{zeroed}

-- a place that was set to 0 has 0, past the end of the list too
pub set_zero : (t : List ℕ) (i : ℕ) → get_or (set t i 0) i 0 ≡ 0
set_zero [] zero = refl
set_zero [] (suc i) = refl
set_zero (x ∷ t) zero = refl
set_zero (x ∷ t) (suc i) = set_zero t i

-- the pledges of the first n lots to the exposure are 0
pub zeroed_there : (t : List ℕ) (e n l : ℕ) → l < n → table (zeroed t e n) l e ≡ 0
unfolding zeroed
zeroed_there t e zero l h = absurd (omega arith)
zeroed_there t e (suc n) l h =
    elim (cases_eq l n) [
      | inl is ↦ rw is (set_zero (zeroed t e n) (n * 16 + e))
      | inr ne ↦ let other : l * 16 + e ≢ n * 16 + e = omega arith in rw get_or-set_other (zeroed_there t e n l (omega arith))
    ]

-- those to another exposure are as they were
pub zeroed_other : (t : List ℕ) (e n l k : ℕ) → e < 16 → k < 16 → (k ≡ e → ⊥) → table (zeroed t e n) l k ≡ table t l k
unfolding zeroed
zeroed_other t e zero l k h j ne = refl
zeroed_other t e (suc n) l k h j ne = let other : l * 16 + k ≢ n * 16 + e = omega arith in rw get_or-set_other (zeroed_other t e n l k h j ne)

-- a table of zeros
pub zeros_at : (n p : ℕ) → get_or (replicate {A = ℕ} n 0) p 0 ≡ 0
zeros_at zero p = refl
zeros_at (suc n) zero = refl
zeros_at (suc n) (suc p) = zeros_at n p
