-- Places of lots and exposures that are filled or emptied, and the pledges that lie on them.

use Rattle.std.proofs.Common.{◌≡◌, ℕ, zero, suc, ◌+◌, ◌*◌, ◌/◌, ◌%◌, ◌<◌, true, false, ltb, ◌≢◌, ◌⊎◌, List, [], ◌∷◌, get_or, set, is_some, Some, None, Option, sym, refl, subst, inl, inr, ⊎_elim, arith, get_or-set_other}
use Rattle.std.proofs.lemmas.Bool.Decides.{nat_tests}
use Rattle.std.proofs.lemmas.Bool.{cases_eq}
use Rattle.network.specs.Sums.{sum_over}
use Rattle.network.proofs.Sums.{sum_term}
use Rattle.curve.specs.declared.lot.Lot.{Lot}
use Rattle.calls.proofs.Zeroed.{set_zero}
use Rattle.calls.specs.declared.Exposure.{Exposure}
use Rattle.calls.specs.State.{table}
use Rattle.calls.specs.Step.{zeroed}
use Rattle.book.specs.Kept.{Grounded, Low}

module _ {A : Type 0} where
  -- what a bound says of each place, it says after one is changed
  pub low_set : (f : Option A → ℕ) (xs : List (Option A)) (p : ℕ) (y : Option A) (b : ℕ) → f y < b → ((k : ℕ) → f (get_or xs k None) < b) → (k : ℕ) → f (get_or (set xs p y) k None) < b
  low_set f [] p y b l h k = h k
  low_set f (x ∷ xs) zero y b l h zero = l
  low_set f (x ∷ xs) zero y b l h (suc k) = h (suc k)
  low_set f (x ∷ xs) (suc p) y b l h zero = h zero
  low_set f (x ∷ xs) (suc p) y b l h (suc k) = low_set f xs p y b l (λ j. h (suc j)) k

  -- a place that is filled leaves filled what was
  pub fill_keeps : (xs : List (Option A)) (p : ℕ) (y : A) (k : ℕ) → is_some (get_or xs k None) ≡ true → is_some (get_or (set xs p (Some y)) k None) ≡ true
  fill_keeps [] p y k h = h
  fill_keeps (x ∷ xs) zero y zero h = refl
  fill_keeps (x ∷ xs) zero y (suc k) h = h
  fill_keeps (x ∷ xs) (suc p) y zero h = h
  fill_keeps (x ∷ xs) (suc p) y (suc k) h = fill_keeps xs p y k h

  -- one that is emptied leaves the others
  pub empty_keeps : (xs : List (Option A)) (p k : ℕ) → (k ≡ p → ⊥) → is_some (get_or xs k None) ≡ true → is_some (get_or (set xs p None) k None) ≡ true
  empty_keeps xs p k ne h = let other : k ≢ p = ne in rw get_or-set_other h

pub lot_filled : (lots : List (Option Lot)) (xs : List (Option Exposure)) (t : List ℕ) (p : ℕ) (y : Lot) → Grounded lots xs t → Grounded (set lots p (Some y)) xs t
lot_filled lots xs t p y g q h = let on = g q h in (fill_keeps lots p y (q / 16) on.0, on.1)

-- a lot without a pledge may go
unpledged : (n : ℕ) → ltb 0 n ≡ false → n ≡ 0
unpledged n h = grind (arith, nat_tests)

pub lot_emptied : (lots : List (Option Lot)) (xs : List (Option Exposure)) (t : List ℕ) (p : ℕ) → ltb 0 (sum_over 16 (λ e. table t p e)) ≡ false
    → Grounded lots xs t → Grounded (set lots p None) xs t
lot_emptied lots xs t p free g q h =
    let on = g q h in (
      empty_keeps lots p (q / 16) (λ e.
          let place : p * 16 + q % 16 ≡ q = omega arith in
          let term = sum_term 16 (q % 16) (λ k. table t p k) (omega arith) in
          let some : 0 < table t p (q % 16) = subst (λ k. 0 < get_or t k 0) (sym place) h.1 in
          omega (arith, term, some, unpledged (sum_over 16 (λ k. table t p k)) free)) on.0,
      on.1,
    )

-- at each place the table is as it was, or 0
zeroed_or : (t : List ℕ) (e n p : ℕ) → (get_or (zeroed t e n) p 0 ≡ get_or t p 0) ⊎ (get_or (zeroed t e n) p 0 ≡ 0)
unfolding zeroed
zeroed_or t e zero p = inl refl
zeroed_or t e (suc n) p =
    ⊎_elim
    (λ is. inr (rw is (set_zero (zeroed t e n) (n * 16 + e))))
    (λ ne. let other : p ≢ n * 16 + e = ne in rw get_or-set_other (zeroed_or t e n p))
    (cases_eq p (n * 16 + e))

none_below : (l : ℕ) → l < 0 → ⊥
none_below l h = omega arith

zeroed_there : (t : List ℕ) (e n l : ℕ) → l < n → get_or (zeroed t e n) (l * 16 + e) 0 ≡ 0
unfolding zeroed
zeroed_there t e zero l h = absurd (none_below l h)
zeroed_there t e (suc n) l h =
    ⊎_elim
    (λ is. rw is (set_zero (zeroed t e n) (n * 16 + e)))
    (λ ne. let other : l * 16 + e ≢ n * 16 + e = omega arith in rw get_or-set_other (zeroed_there t e n l (omega arith)))
    (cases_eq l n)

gone : (n : ℕ) → n ≡ 0 → 0 < n → ⊥
gone n e h = omega arith

module _ (t u : List ℕ) (e : ℕ) (is : u ≡ zeroed t e 64) where
  pub zeroed_low : Low t → Low u
  zeroed_low small p = rw is (⊎_elim (λ w. rw w (small p)) (λ z. rw z (omega arith)) (zeroed_or t e 64 p))

  pub exposure_emptied : (lots : List (Option Lot)) (xs : List (Option Exposure)) → e < 16 → Grounded lots xs t → Grounded lots (set xs e None) u
  exposure_emptied lots xs he g = rw is (λ p h.
      ⊎_elim
      (λ was.
      let on = g p (h.0, omega (arith, was, h.1)) in (
        on.0,
        empty_keeps xs e (p % 16) (λ col.
            let place : (p / 16) * 16 + e ≡ p = omega arith in
            let z : get_or (zeroed t e 64) p 0 ≡ 0 = rw place at (zeroed_there t e 64 (p / 16) (omega arith)) in
            gone (get_or (zeroed t e 64) p 0) z h.1) on.1,
      ))
      (λ z. absurd (gone (get_or (zeroed t e 64) p 0) z h.1))
      (zeroed_or t e 64 p))
