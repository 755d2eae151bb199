-- Months order the points of a curve, and its haircuts with them.
--
-- Months rise from point to point, so a point with a later month has a larger number; haircuts never
-- fall from point to point. A haircut between two points lies between theirs, and rises with the month
-- since a quotient rounded up rises with its dividend. Two months in one stretch are compared there, and
-- two in different stretches by the points between them.

use Rattle.std.proofs.Common.{◌≡◌, ℕ, zero, suc, ◌+◌, ◌-◌, ◌<◌, ◌≤◌, ◌⊎◌, sym, refl, subst, inl, inr, ⊎_elim, mul_comm, mul-le-mul_left, add-one, arith}
use native.Mathlib.Decide.{dec_lt}
use native.Mathlib.Nat.{div-le_of_le-mul}
use Rattle.curve.specs.Points.{Points, Lawful, between, Haircut, Past}
use Rattle.curve.specs.Points.Haircut.{at, inside}
use Rattle.curve.specs.Lot.{collateral}
use Rattle.curve.proofs.Rising.{month_next, month_first, haircut_next}
use Rattle.curve.proofs.Rounding.{between_le, between_mono}

module _ (c : Points) (law : Lawful c) where
  -- the next point, at j + 1
  next_month : (j : ℕ) → j + 1 < c.count → c.month j < c.month (j + 1)
  next_month j h =
      let e : (j + 1) - 1 ≡ j = omega arith in
      subst (λ k. c.month k < c.month (j + 1)) e (month_next c.month c.count (j + 1) law.months (omega arith) h)

  next_haircut : (j : ℕ) → j + 1 < c.count → c.haircut j ≤ c.haircut (j + 1)
  next_haircut j h =
      let e : (j + 1) - 1 ≡ j = omega arith in
      subst (λ k. c.haircut k ≤ c.haircut (j + 1)) e (haircut_next c.haircut c.count (j + 1) law.haircuts (omega arith) h)

  -- d points on
  later_month : (i d : ℕ) → i + d < c.count → c.month i + d ≤ c.month (i + d)
  later_month i zero h = let e : i + 0 ≡ i = omega arith in subst (λ k. c.month i + 0 ≤ c.month k) (sym e) (omega arith)
  later_month i (suc d) h =
      let e : (i + d) + 1 ≡ i + suc d = omega arith in
      subst (λ k. c.month i + suc d ≤ c.month k) e (omega (arith, later_month i d (omega arith), next_month (i + d) (omega arith)))

  later_haircut : (i d : ℕ) → i + d < c.count → c.haircut i ≤ c.haircut (i + d)
  later_haircut i zero h = let e : i + 0 ≡ i = omega arith in subst (λ k. c.haircut i ≤ c.haircut k) (sym e) (omega arith)
  later_haircut i (suc d) h =
      let e : (i + d) + 1 ≡ i + suc d = omega arith in
      subst (λ k. c.haircut i ≤ c.haircut k) e (omega (arith, later_haircut i d (omega arith), next_haircut (i + d) (omega arith)))

  -- by the numbers of two points
  pub months_rise : (i j : ℕ) → i ≤ j → j < c.count → c.month i + (j - i) ≤ c.month j
  months_rise i j l h =
      let e : i + (j - i) ≡ j = omega arith in
      subst (λ k. c.month i + (j - i) ≤ c.month k) e (later_month i (j - i) (omega arith))

  points_rise : (i j : ℕ) → i ≤ j → j < c.count → c.haircut i ≤ c.haircut j
  points_rise i j l h =
      let e : i + (j - i) ≡ j = omega arith in
      subst (λ k. c.haircut i ≤ c.haircut k) e (later_haircut i (j - i) (omega arith))

  -- a point whose month is no later has no larger number
  order : (i j : ℕ) → i < c.count → c.month i ≤ c.month j → i ≤ j
  order i j h l = elim (dec_lt j i) [ yes w ↦ absurd (omega (arith, months_rise j i (omega arith) h)) | no w ↦ omega arith ]

  order_less : (i j : ℕ) → i < c.count → c.month i < c.month j → i < j
  order_less i j h l = elim (dec_lt i j) [
    | yes w ↦ w
    | no w ↦
        absurd (let e : i ≡ j = omega (arith, order i j h (omega arith)) in omega (arith, subst (λ k. c.month i < c.month k) (sym e) l))
  ]

  -- the haircut inside a stretch lies between those of its ends
  above : (j m : ℕ) → c.haircut j ≤ between (c.month j) (c.haircut j) (c.month (j + 1)) (c.haircut (j + 1)) m
  above j m = omega arith

  below : (j m : ℕ) → j + 1 < c.count → m ≤ c.month (j + 1) → between (c.month j) (c.haircut j) (c.month (j + 1)) (c.haircut (j + 1)) m ≤ c.haircut (j + 1)
  below j m h l = between_le (c.month j) (c.haircut j) (c.month (j + 1)) (c.haircut (j + 1)) m (next_month j h) l (next_haircut j h)

  same_stretch : (j j' m m' : ℕ) → j ≡ j' → j + 1 < c.count → m ≤ m'
      → between (c.month j) (c.haircut j) (c.month (j + 1)) (c.haircut (j + 1)) m ≤ between (c.month j') (c.haircut j') (c.month (j' + 1)) (c.haircut (j' + 1)) m'
  same_stretch j j' m m' e h l =
      let P : ℕ → Type 0 = λ k. between (c.month j) (c.haircut j) (c.month (j + 1)) (c.haircut (j + 1)) m ≤ between (c.month k) (c.haircut k) (c.month (k + 1)) (c.haircut (k + 1)) m' in
      subst P e (between_mono (c.month j) (c.haircut j) (c.month (j + 1)) (c.haircut (j + 1)) m m' (next_month j h) l)

  pub rises : {m m' h h' : ℕ} → m ≤ m' → Haircut c m h → Haircut c m' h' → h ≤ h'
  rises l (at j hj e) (at j' hj' e') = points_rise j j' (order j j' hj (omega arith)) hj'
  rises {m} {m'} l (at j hj e) (inside j' hj' a' b') =
      let k : j < j' + 1 = order_less j (j' + 1) hj (omega arith) in
      omega (arith, points_rise j j' (omega arith) (omega arith), above j' m')
  rises {m} {m'} l (inside j hj a b) (at j' hj' e') =
      let k : j < j' = order_less j j' (omega arith) (omega arith) in
      omega (arith, below j m hj (omega arith), points_rise (j + 1) j' (omega arith) hj')
  rises {m} {m'} l (inside j hj a b) (inside j' hj' a' b') =
      let k : j < j' + 1 = order_less j (j' + 1) (omega arith) (omega arith) in
      elim (dec_lt j j') [
        | yes w ↦ omega (arith, below j m hj (omega arith), points_rise (j + 1) j' (omega arith) (omega arith), above j' m')
        | no w ↦ same_stretch j j' m m' (omega arith) hj l
      ]

  pub one : (m h h' : ℕ) → Haircut c m h → Haircut c m h' → h ≡ h'
  one m h h' x y =
      let p = rises {m = m} {m' = m} (omega arith) x y in
      let q = rises {m = m} {m' = m} (omega arith) y x in
      omega arith

  pub neighbours : (m h j : ℕ) → j + 1 < c.count → c.month j ≤ m → m ≤ c.month (j + 1) → Haircut c m h → (c.haircut j ≤ h) × (h ≤ c.haircut (j + 1))
  neighbours m h j l a b x = (
    rises a (at j (omega arith) refl) x,
    rises b x (at (j + 1) l refl),
  )

  -- the first n + 1 points reach a month, or it comes after them
  found : (m n : ℕ) → n < c.count → ((h : ℕ) × Haircut c m h) ⊎ (c.month n < m)
  found m zero l = elim (dec_lt 0 m) [
    | yes w ↦ inr (omega (arith, month_first c.month c.count law.months law.some))
    | no w ↦ inl (c.haircut 0, at 0 l (omega (arith, month_first c.month c.count law.months law.some)))
  ]
  found m (suc n) l = ⊎_elim inl (λ w. further w) (found m n (omega arith)) where
    further : c.month n < m → ((h : ℕ) × Haircut c m h) ⊎ (c.month (suc n) < m)
    further w = elim (dec_lt (c.month (suc n)) m) [
      | yes v ↦ inr v
      | no v ↦ elim (dec_lt m (c.month (suc n))) [
        | yes u ↦ inl (_, inside n (rw add-one l) w (rw add-one u))
        | no u ↦ inl (c.haircut (suc n), at (suc n) l (omega arith))
      ]
    ]

  pub ends : (m : ℕ) → ((h : ℕ) × Haircut c m h) ⊎ Past c m
  ends m = found m (c.count - 1) (omega (arith, law.some))

  pub none_past : {m h : ℕ} → Past c m → Haircut c m h → ⊥
  none_past {m} p (at j l e) = omega (arith, order_less (c.count - 1) j (omega (arith, law.some)) (omega arith))
  none_past {m} p (inside j l a b) = omega (arith, order_less (c.count - 1) (j + 1) (omega (arith, law.some)) (omega arith))

-- values
pub value_low : (market h : ℕ) → collateral market h ≤ market
value_low market h = div-le_of_le-mul 10000 (omega (arith, mul-le-mul_left market (le h), mul_comm market 10000)) where
  le : (h : ℕ) → 10000 - h ≤ 10000
  le h = omega arith

pub value_falls : (market h h' : ℕ) → h ≤ h' → collateral market h' ≤ collateral market h
value_falls market h h' l = omega (arith, mul-le-mul_left market less) where
  less : 10000 - h' ≤ 10000 - h
  less = omega arith
