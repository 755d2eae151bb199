-- Sums of lists, as sums of the terms that stand at their places.

use Rattle.std.proofs.Common.{◌≡◌, ℕ, zero, suc, ◌^◌, ◌<◌, ◌≤◌, List, Option, Some, None, is_some, length, take, sum, sym, refl, ap, ◌∙◌, arith, add-one}
use Rattle.std.proofs.Math.Seq.{take-length}
use Rattle.std.proofs.lemmas.List.Sums.{sum_by_more}
use Rattle.network.specs.Sums.{sum_over, when}
use Rattle.network.proofs.Sums.{sum_start, sum_more, sum_same}
use Rattle.table.specs.Table.{owed}
use Rattle.table.proofs.Sums.{sum_below}
use Rattle.cover.specs.declared.problem.Problem.{Problem}
use Rattle.cover.specs.View.{at, exposure_at, amount_of}
use Rattle.cover.specs.Seen.{seen}

pub sum_first : (xs : List ℕ) (n : ℕ) → n ≤ length xs → sum (take n xs) ≡ sum_over n (at xs)
sum_first xs zero h = sym (sum_start (at xs))
sum_first xs (suc n) h =
    ap (λ k. sum (take k xs)) (sym (add-one n)) ∙ omega (arith, sum_by_more (λ x. x) xs n 0 (omega arith), sum_first xs n (omega arith), sum_more n (at xs)) ∙ ap (λ k. sum_over k (at xs)) (add-one n)

open_amount : (x : Option ℕ) → amount_of x ≡ when (is_some x) (amount_of x)
open_amount None = refl
open_amount (Some x) = refl

-- what is owed is the sum of the amounts
module _ (p : Problem) (xs : List ℕ) (len : length xs ≡ 16) (is : (e : ℕ) → e < 16 → at xs e ≡ amount_of (exposure_at p.exposures e)) where
  as_terms : sum xs ≡ sum_over 16 (at xs)
  as_terms = ap sum (sym (take-length xs)) ∙ ap (λ n. sum (take n xs)) len ∙ sum_first xs 16 (omega arith)

  pub amounts_low : sum xs < 2 ^ 64
  amounts_low = omega (arith, as_terms, sum_below 16 (2 ^ 40) (at xs) (λ e h. omega (arith, is e h, p.small.amounts e)))

  pub amounts_owed : sum xs ≡ owed (seen p)
  unfolding owed
  amounts_owed = as_terms ∙ sum_same 16 _ _ (λ e h. is e h ∙ open_amount (exposure_at p.exposures e))
