-- Walks over lots, exposures and tables.

use Rattle.std.proofs.Common.{◌≡◌, ℕ, zero, suc, ◌+◌, ◌*◌, ◌<◌, Bool, true, false, ltb, List, [], ◌∷◌, ◌++◌, length, drop, get_or, set, sym, refl, ap, ◌∙◌, add-one, zero-add, arith, length-drop, length-append}
use Rattle.std.specs.List.{list_any}
use Rattle.std.proofs.lemmas.Bool.Decides.{nat_tests}
use Rattle.std.proofs.lemmas.List.{drop_at, drop-drop, get_or-drop}
use Rattle.std.proofs.Math.ListN.{get_or-append}
use Rattle.network.specs.Sums.{sum_over, when}
use Rattle.network.proofs.Sums.{sum_start, sum_more, sum_same}
use Rattle.calls.specs.Call.{count}
use Rattle.calls.specs.State.{table}
use Rattle.calls.specs.Step.{zeroed}

-- a sum from its first term on, as a list goes
sum_first : (n : ℕ) (g : ℕ → ℕ) → sum_over (suc n) g ≡ g 0 + sum_over n (λ k. g (suc k))
unfolding sum_over
sum_first zero g = omega arith
sum_first (suc n) g = ap (λ x. x + g (suc n)) (sum_first n g) ∙ omega arith

-- the filled places, one after the other
pub count_start : (p : ℕ → Bool) → count 0 p ≡ 0
count_start p = sum_start (λ k. when (p k) 1)

pub count_hit : (p : ℕ → Bool) (n : ℕ) → p n ≡ true → count (n + 1) p ≡ count n p + 1
count_hit p n h = sum_more n (λ k. when (p k) 1) ∙ ap (λ b. count n p + when b 1) h

pub count_miss : (p : ℕ → Bool) (n : ℕ) → p n ≡ false → count (n + 1) p ≡ count n p
count_miss p n h = sum_more n (λ k. when (p k) 1) ∙ (ap (λ b. count n p + when b 1) h ∙ omega arith)

-- some number of a list is above 0
some_above : (xs : List ℕ) → list_any (ltb 0) xs ≡ ltb 0 (sum_over (length xs) (λ k. get_or xs k 0))
some_above [] = rw sum_start refl
some_above (zero ∷ xs) = some_above xs ∙ rw (sum_first (length xs) (λ k. get_or (zero ∷ xs) k 0), zero-add) refl
some_above (suc x ∷ xs) = let s = sum_first (length xs) (λ k. get_or (suc x ∷ xs) k 0) in grind (arith, nat_tests)

-- a lot has a pledge if its row has a number above 0
pub row_pledged : (row t : List ℕ) (l : ℕ) → length row ≡ 16 → ((e : ℕ) → e < 16 → get_or row e 0 ≡ table t l e) → list_any (ltb 0) row ≡ ltb 0 (sum_over 16 (λ e. table t l e))
row_pledged row t l wide each =
    some_above row ∙ (ap (λ n. ltb 0 (sum_over n (λ k. get_or row k 0))) wide ∙ ap (ltb 0) (sum_same 16 (λ k. get_or row k 0) (λ e. table t l e) each))

pub zeroed_start : (t : List ℕ) (e : ℕ) → zeroed t e 0 ≡ t
unfolding zeroed
zeroed_start t e = refl

pub zeroed_more : (t : List ℕ) (e n : ℕ) → zeroed t e (n + 1) ≡ set (zeroed t e n) (n * 16 + e) 0
unfolding zeroed
zeroed_more t e n = ap (zeroed t e) (add-one n)

-- what a walk over a list comes to: an element
pub next_of : {A : Type 0} (xs rest : List A) (i : ℕ) (x : A) → drop i xs ≡ x ∷ rest → (i < length xs) × ((d : A) → get_or xs i d ≡ x) × (rest ≡ drop (i + 1) xs)
next_of [] rest zero x h = absurd (cc)
next_of [] rest (suc i) x h = absurd (cc)
next_of (y ∷ ys) rest zero x h = (omega arith, (λ d. cc), (cc))
next_of (y ∷ ys) rest (suc i) x h =
    let r = next_of ys rest i x h in
    (omega (arith, r.0), r.1, r.2 ∙ (ap (λ k. drop k ys) (add-one i) ∙ sym (ap (λ k. drop k (y ∷ ys)) (add-one (suc i)))))

-- and to a row
pub row_of : (t row rest : List ℕ) (l : ℕ) → drop (l * 16) t ≡ row ++ rest → length row ≡ 16 → (l * 16 + 16 + length rest ≡ length t) × ((e : ℕ) → e < 16 → table t l e ≡ get_or row e 0) × (rest ≡ drop ((l + 1) * 16) t)
row_of t row rest l h wide =
    let past : rest ≡ drop (l * 16 + 16) t = sym (drop_at row rest 16 wide) ∙ (ap (drop 16) (sym h) ∙ drop-drop 16 (l * 16) t) in
    let to : l * 16 + 16 ≡ (l + 1) * 16 = omega arith in
    (omega (arith, ap length h, length-drop (l * 16) t, length-append row rest), (λ e he. sym (get_or-drop (l * 16) t e 0) ∙ (ap (λ xs. get_or xs e 0) h ∙ get_or-append row rest 0 e (omega arith))), past ∙ ap (λ k. drop k t) to)
