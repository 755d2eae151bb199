-- To believe: nothing; lemmas. Arrays read as functions.

use Rattle.std.specs.Prelude.{◌≡◌, ℕ, ◌+◌, ◌<◌, ◌≢◌, List, length, replicate, ◌==◌, slice_index_or, slice_set}
use Rattle.std.proofs.Common.{sym, ap, subst, ◌∙◌, inl, inr, arith, get_or-set_same, get_or-set_other}
use Rattle.std.proofs.lemmas.Bool.{cases_eq, cases_lt}
use Rattle.std.proofs.lemmas.List.{get_or_past, get_or-replicate, length-replicate}
use Rattle.network.specs.Sums.{when}
use Rattle.network.proofs.Sums.{hit, miss}
use Rattle.cover.specs.View.{at}

pub set_here : (xs : List ℕ) (i v : ℕ) → i < length xs → at (slice_set xs i v) i ≡ v
set_here xs i v h = rw get_or-set_same

pub set_there : (xs : List ℕ) (i v k : ℕ) → (k ≢ i) → at (slice_set xs i v) k ≡ at xs k
set_there xs i v k n = let ne : k ≢ i = n in rw get_or-set_other

-- x more at the place i
pub add_at : (xs : List ℕ) (i x k : ℕ) → i < length xs → at (slice_set xs i (at xs i + x)) k ≡ at xs k + when (i == k) x
add_at xs i x k h = elim (cases_eq i k) [
  | inl e ↦ ap (at (slice_set xs i (at xs i + x))) (sym e) ∙ set_here xs i _ h ∙ omega (arith, ap (at xs) e, hit i k x e)
  | inr n ↦ set_there xs i _ k (λ e. n (sym e)) ∙ omega (arith, miss i k x n)
]

-- one more place is filled
pub fill_more : {A : Type 0} (d : A) (P : ℕ → A → Type 0) (xs : List A) (n : ℕ) (v : A) → n < length xs → ((k : ℕ) → k < n → P k (slice_index_or xs k d)) → P n v → (k : ℕ) → k < n + 1 → P k (slice_index_or (slice_set xs n v) k d)
fill_more d P xs n v h below here k l = elim (cases_eq k n) [
  | inl e ↦ subst (λ k. P k (slice_index_or (slice_set xs n v) k d)) (sym e) (subst (P n) (sym (get_or-set_same xs n v d h)) here)
  | inr ne ↦ subst (P k) (sym (get_or-set_other xs n k v d ne)) (below k (omega arith))
]

-- zeros
pub zeros_at : (n k : ℕ) → at (replicate n 0) k ≡ 0
zeros_at n k = elim (cases_lt k n) [
  | inl h ↦ get_or-replicate n k 0 0 h
  | inr h ↦ get_or_past (replicate n 0) k 0 (omega (arith, length-replicate {A = ℕ} n 0))
]
