-- A table stays lawful where pledges only fall and what they lie on stays.
--
-- Two books' lots and exposures are given, with a table for each. Nowhere does the second table pledge more than the first. Each
-- lot place either has no pledge in the second table or the same lot in both books, and so for each exposure place. Then the second
-- table is lawful if the first one is: a pledge above 0 in it lies on a lot and an exposure that both are as they were, and there
-- was a pledge above 0 there before. A lot's pledges, if there are any, come to no more than before, and its value is the same; so
-- with an exposure's pledges and its amount. An exposure's pledges from one issuer are compared lot by lot: a lot without pledges
-- adds nothing, and another has the issuer that it had. Adding, withdrawing, opening and closing are of this kind.

use Rattle.std.proofs.Common.{◌≡◌, ℕ, ◌<◌, ◌≤◌, true, ◌⊎◌, List, is_some, Option, sym, ap, ◌∙◌, inl, inr, arith}
use Rattle.network.specs.Sums.{sum_over, when}
use Rattle.network.proofs.Sums.{sum_le, sum_none, when_le}
use Rattle.table.specs.Table.{Situation, Table, Lawful, allowed, of_issuer}
use Rattle.table.proofs.Sums.{when_low}
use Rattle.binder.specs.Meaning.{Meaning}
use Rattle.curve.specs.declared.lot.Lot.{Lot}
use Rattle.calls.specs.declared.Exposure.{Exposure}
use Rattle.calls.specs.State.{lot_at, exposure_at}
use Rattle.calls.specs.Situation.{situation_of, worth_of, amount_of, limit_of}

-- from the lots, exposures and table on the left to those on the right
pub record Lessens (lots new-lots : List (Option Lot)) (exposures new-exposures : List (Option Exposure)) (p q : Table) : Type 0 where
  pub fewer : (l e : ℕ) → l < 64 → e < 16 → q l e ≤ p l e
  pub rows : (l : ℕ) → l < 64 → ((e : ℕ) → e < 16 → q l e ≡ 0) ⊎ (lot_at new-lots l ≡ lot_at lots l)
  pub columns : (e : ℕ) → e < 16 → ((l : ℕ) → l < 64 → q l e ≡ 0) ⊎ (exposure_at new-exposures e ≡ exposure_at exposures e)

pub none_above : (n : ℕ) → n ≡ 0 → 0 < n → ⊥
none_above n z h = omega arith

module _ (m : Meaning) (lots new-lots : List (Option Lot)) (exposures new-exposures : List (Option Exposure)) (p q : Table) (d : Lessens lots new-lots exposures new-exposures p q) (w : Lawful (situation_of m lots exposures) p) where
  abbrev s : Situation
  s = situation_of m lots exposures

  abbrev r : Situation
  r = situation_of m new-lots new-exposures

  grounded : (l e : ℕ) → l < 64 → e < 16 → 0 < q l e → allowed r l e ≡ true
  grounded l e h j y =
      elim (d.rows l h) [
        | inl z ↦ absurd (none_above (q l e) (z e j) y)
        | inr a ↦ elim (d.columns e j) [
          | inl z ↦ absurd (none_above (q l e) (z l h) y)
          | inr b ↦ rw (a, b) (w.grounded l e h j (omega (arith, d.fewer l e h j)))
        ]
      ]

  of_lots : (l : ℕ) → l < 64 → r.held l ≡ true → sum_over 16 (λ e. q l e) ≤ r.worth l
  of_lots l h y =
      elim (d.rows l h) [
        | inl z ↦ omega (arith, sum_none 16 (λ e. q l e) z)
        | inr a ↦ omega (arith, sum_le 16 (λ e. q l e) (λ e. p l e) (λ e j. d.fewer l e h j), w.lots l h (ap is_some (sym a) ∙ y), ap worth_of a)
      ]

  -- what a lot adds to an issuer's pledges
  of_lot : (e i l : ℕ) → e < 16 → l < 64 → when (of_issuer r i l) (q l e) ≤ when (of_issuer s i l) (p l e)
  of_lot e i l j h =
      elim (d.rows l h) [
        | inl z ↦ omega (arith, when_low (of_issuer r i l) (q l e), z e j)
        | inr a ↦ rw a (when_le (of_issuer s i l) (q l e) (p l e) (d.fewer l e h j))
      ]

  of_issuers : (e i : ℕ) → e < 16 → r.opened e ≡ true → sum_over 64 (λ l. when (of_issuer r i l) (q l e)) ≤ r.limit e i
  of_issuers e i j y =
      elim (d.columns e j) [
        | inl z ↦ omega (arith, sum_none 64 (λ l. when (of_issuer r i l) (q l e)) (λ l h. omega (arith, when_low (of_issuer r i l) (q l e), z l h)))
        | inr b ↦
            omega (
              arith,
              sum_le 64 (λ l. when (of_issuer r i l) (q l e)) (λ l. when (of_issuer s i l) (p l e)) (λ l h. of_lot e i l j h),
              w.issuers e i j (ap is_some (sym b) ∙ y),
              ap (λ x. limit_of m x i) b,
            )
      ]

  of_exposures : (e : ℕ) → e < 16 → r.opened e ≡ true → sum_over 64 (λ l. q l e) ≤ r.amount e
  of_exposures e j y =
      elim (d.columns e j) [
        | inl z ↦ omega (arith, sum_none 64 (λ l. q l e) z)
        | inr b ↦ omega (arith, sum_le 64 (λ l. q l e) (λ l. p l e) (λ l h. d.fewer l e h j), w.exposures e j (ap is_some (sym b) ∙ y), ap amount_of b)
      ]

  pub lessened : Lawful (situation_of m new-lots new-exposures) q
  lessened = record { grounded = grounded; lots = of_lots; issuers = of_issuers; exposures = of_exposures }
