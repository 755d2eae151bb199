-- There are no more changes than held lots times open exposures, and no more closings than held lots.
--
-- Each place gives one instruction at most, and none unless one of the tables has a pledge there, which lies on a held lot and an
-- open exposure. So the instructions are counted by a sum over the places that are both.

use Rattle.std.proofs.Common.{◌≡◌, ℕ, zero, suc, ◌+◌, ◌*◌, ◌/◌, ◌%◌, ◌<◌, ◌≤◌, Bool, true, false, List, length, get_or, Option, sym, refl, ap, ◌∙◌, subst, ⊎_elim, add-mul, zero-mul, arith}
use Rattle.std.proofs.lemmas.Bool.{cases_eq}
use Rattle.network.specs.Sums.{sum_over, when}
use Rattle.network.proofs.Sums.{sum_le}
use Rattle.table.proofs.Sums.{sum_grid, when_only}
use Rattle.curve.specs.declared.lot.Lot.{Lot}
use Rattle.calls.specs.declared.Exposure.{Exposure}
use Rattle.calls.specs.State.{table, held_at, open_at}
use Rattle.calls.specs.Call.{count}
use Rattle.calls.specs.Instructions.{changes, closings}
use Rattle.book.specs.Kept.{Grounded}
use Rattle.book.proofs.Collected.{change_at, closing_at, changes_is, closings_is, collected_length, move_short, move_none}

-- a sum of the same number over the places that pass a test
times : (n k : ℕ) (p : ℕ → Bool) → sum_over n (λ l. when (p l) k) ≡ count n p * k
unfolding sum_over
times zero k p = sym (zero-mul k)
times (suc n) k p = ap (λ x. x + when (p n) k) (times n k p) ∙ (one (p n) ∙ sym (add-mul (count n p) (when (p n) 1) k)) where
  one : (b : Bool) → count n p * k + when b k ≡ count n p * k + when b 1 * k
  one true = omega arith
  one false = omega arith

when_out : (n : ℕ) (b : Bool) (p : ℕ → Bool) → sum_over n (λ e. when b (when (p e) 1)) ≡ when b (count n p)
unfolding sum_over
when_out zero true p = refl
when_out zero false p = refl
when_out (suc n) true p = ap (λ x. x + when (p n) 1) (when_out n true p)
when_out (suc n) false p = ap (λ x. x + 0) (when_out n false p)

none : (b : Bool) (x : ℕ) → (0 < x → b ≡ true) → b ≡ false → x ≡ 0
none b zero h f = refl
none b (suc x) h f = let t = h (omega arith) in absurd (cc)

two_tests : (a b : Bool) (x : ℕ) → (0 < x → (a ≡ true) × (b ≡ true)) → x ≤ 1 → x ≤ when a (when b 1)
two_tests a b x h l = when_only a x (when b 1) (λ _. when_only b x 1 (λ _. l) (none b x (λ k. (h k).1))) (none a x (λ k. (h k).0))

module _ (lots : List (Option Lot)) (xs : List (Option Exposure)) (s w : List ℕ) (gs : Grounded lots xs s) (gw : Grounded lots xs w) where
  on_both : (l e : ℕ) → l < 64 → e < 16 → (get_or w (l * 16 + e) 0 ≡ get_or s (l * 16 + e) 0 → ⊥) → (held_at lots l ≡ true) × (open_at xs e ≡ true)
  on_both l e hl he differ =
      let p = l * 16 + e in
      let row : p / 16 ≡ l = omega arith in
      let col : p % 16 ≡ e = omega arith in
      let on : (held_at lots (p / 16) ≡ true) × (open_at xs (p % 16) ≡ true) =
      ⊎_elim (λ z. gw p (omega arith, omega arith)) (λ nz. gs p (omega arith, omega arith)) (cases_eq (get_or s p 0) 0) in
      (subst (λ (x : ℕ). held_at lots x ≡ true) row on.0, subst (λ (x : ℕ). open_at xs x ≡ true) col on.1)

  one_change : (l e : ℕ) → l < 64 → e < 16 → length (change_at s w (l * 16 + e)) ≤ when (held_at lots l) (when (open_at xs e) 1)
  unfolding change_at
  one_change l e hl he =
      let p = l * 16 + e in
      two_tests (held_at lots l) (open_at xs e) (length (change_at s w p))
      (λ some. on_both l e hl he (λ same. omega (arith, some, move_none (p / 16) (p % 16) (get_or s p 0) (get_or w p 0) same)))
      (move_short (p / 16) (p % 16) (get_or s p 0) (get_or w p 0))

  pub few_changes : length (changes s w 1024) ≤ count 64 (held_at lots) * count 16 (open_at xs)
  few_changes =
      let wide = count 16 (open_at xs) in
      let size : length (changes s w 1024) ≡ sum_over 64 (λ l. sum_over 16 (λ e. length (change_at s w (l * 16 + e)))) =
      ap length (changes_is s w 1024) ∙ (collected_length (change_at s w) 1024 ∙ sum_grid 64 16 (λ p. length (change_at s w p))) in
      let rows : sum_over 64 (λ l. sum_over 16 (λ e. length (change_at s w (l * 16 + e)))) ≤ sum_over 64 (λ l. when (held_at lots l) wide) =
      sum_le 64 _ _ (λ l hl. rw (← when_out 16 (held_at lots l) (open_at xs)) (sum_le 16 _ _ (λ e he. one_change l e hl he))) in
      omega (arith, size, rows, times 64 wide (held_at lots))

module _ (lots : List (Option Lot)) (xs : List (Option Exposure)) (s : List ℕ) (gs : Grounded lots xs s) (e : ℕ) (he : e < 16) where
  one_closing : (l : ℕ) → l < 64 → length (closing_at s e l) ≤ when (held_at lots l) (when true 1)
  unfolding closing_at
  one_closing l hl =
      let p = l * 16 + e in
      let row : p / 16 ≡ l = omega arith in
      two_tests (held_at lots l) true (length (closing_at s e l))
      (λ some. (
        subst (λ (x : ℕ). held_at lots x ≡ true) row
            (gs p (omega arith, ⊎_elim (λ z. absurd (omega (arith, some, move_none l e (table s l e) 0 (sym z)))) (λ nz. omega arith) (cases_eq (get_or s p 0) 0))).0,
        refl,
      ))
      (move_short l e (table s l e) 0)

  pub few_closings : length (closings s e 64) ≤ count 64 (held_at lots)
  few_closings =
      let size : length (closings s e 64) ≡ sum_over 64 (λ l. length (closing_at s e l)) = ap length (closings_is s e 64) ∙ collected_length (closing_at s e) 64 in
      omega (arith, size, sum_le 64 (λ l. length (closing_at s e l)) (λ l. when (held_at lots l) 1) one_closing)
