-- To believe: nothing; lemmas. Lists as functions: one with a place written, and one of zeros.

use Rattle.std.specs.Prelude.{◌≡◌, ℕ, zero, suc, ◌<◌, List, length, replicate, ◌≢◌, slice_set, refl}
use Rattle.std.proofs.Common.{ap, subst, ◌∙◌}
use Rattle.std.proofs.lemmas.List.{get_or-set_same, get_or-set_other}
use Rattle.flow.specs.Lists.{at}

-- g' is g but for x at i
abbrev pub Put : (ℕ → ℕ) → (ℕ → ℕ) → ℕ → ℕ → Type 0
Put g g' i x = (g' i ≡ x) × ((j : ℕ) → (j ≢ i) → g' j ≡ g j)

pub put : (xs : List ℕ) (i x : ℕ) → i < length xs → Put (at xs) (at (slice_set xs i x)) i x
put xs i x h = (get_or-set_same xs i x 0 h, λ j n. get_or-set_other xs i j x 0 n)

pub put_at : (xs : List ℕ) (i x j : ℕ) → i ≡ j → i < length xs → Put (at xs) (at (slice_set xs i x)) j x
put_at xs i x j e h = subst (λ k. Put (at xs) (at (slice_set xs i x)) k x) e (put xs i x h)

pub zero_at : (n k : ℕ) → at (replicate n 0) k ≡ 0
zero_at zero k = refl
zero_at (suc n) zero = refl
zero_at (suc n) (suc k) = zero_at n k

pub zeros : (xs : List ℕ) (n : ℕ) → xs ≡ replicate n 0 → (k : ℕ) → at xs k ≡ 0
zeros xs n e k = ap (λ l. at l k) e ∙ zero_at n k
