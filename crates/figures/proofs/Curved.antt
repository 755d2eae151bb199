-- The curve's figures. A month's haircut is found by going through its three points and the two gaps
-- between them: each that does not hold the month is ruled out by its ends.

use Rattle.std.proofs.Common.{◌≡◌, ℕ, zero, suc, ◌+◌, ◌*◌, ◌<◌, false, sym, refl, ap, ◌∙◌, subst, arith}
use Rattle.cause.specs.Numbers.{number}
use Rattle.cause.specs.declared.Cause.{Cause}
use Rattle.cause.specs.declared.Cause.TheVariants.{PastCurve}
use Rattle.curve.proofs.Ordered.{one, none_past}
use Rattle.curve.specs.Points.{Points, month_breaks, haircut_breaks, Haircut, Past}
use Rattle.curve.specs.Points.Haircut.{inside}
use Rattle.curve.specs.Page.{Spelt, Accepted}
use Rattle.curve.specs.Lot.{lot_of, collateral, Priced, Unpriced}
use Rattle.curve.specs.Lot.Unpriced.{outside, past}
use Rattle.curve.specs.declared.lot.Terms.{Terms}
use Rattle.curve.specs.declared.lot.Lot.{Lot}
use Rattle.figures.specs.Curves.{page, curve, columns, Offered, Only, CurveFigures}

-- what holds at 0, 1 and 2 holds below 3
three : (P : ℕ → Type 0) → P 0 → P 1 → P 2 → (j : ℕ) → j < 3 → P j
three P a b c zero h = a
three P a b c (suc zero) h = b
three P a b c (suc (suc zero)) h = c
three P a b c (suc (suc (suc j))) h = absurd (omega arith)

accepted : Accepted page curve
accepted =
    record {
      page =
          record {
            some = omega arith;
            few = omega arith;
            size = refl;
            number = refl;
            months = three (λ j. Spelt page (1 + 2 * j) (curve.month j)) (refl, refl) (refl, refl) (refl, refl);
            haircuts = three (λ j. Spelt page (1 + 2 * 3 + 2 * j) (curve.haircut j)) (refl, refl) (refl, refl) (refl, refl);
          };
      lawful =
          record {
            some = omega arith;
            few = omega arith;
            months = three (λ j. month_breaks curve.month j ≡ false) refl refl refl;
            haircuts = three (λ j. haircut_breaks curve.haircut j ≡ false) refl refl refl;
          };
    }

-- each list at its three places, and past its end
same : (j : ℕ) → (columns.month j ≡ curve.month j) × (columns.haircut j ≡ curve.haircut j)
same zero = (refl, refl)
same (suc zero) = (refl, refl)
same (suc (suc zero)) = (refl, refl)
same (suc (suc (suc j))) = (refl, refl)

-- by the law that a month has one haircut
only : (m h : ℕ) → Haircut curve m h → Only m h
only m h x = (x, λ h' y. one curve accepted.lawful m h' h y x)

month_30 : Only 30 250
month_30 = only 30 250 (inside 0 (omega arith) (omega arith) (omega arith))

month_61 : Only 61 406
month_61 = only 61 406 (inside 1 (omega arith) (omega arith) (omega arith))

-- by the law that there is no haircut after the last point
month_361 : Past curve 361 × ((h : ℕ) → Haircut curve 361 h → ⊥)
month_361 = (omega arith, λ h x. none_past curve accepted.lawful (omega arith) x)

module _ (curves : ℕ → Points) (m : ℕ) (t : Terms) (x : Offered curves m t) where
  -- what holds of the lot's class and month holds of the curve and the month of the figure, and back
  here : (P : Points → ℕ → Type 0) → P (curves t.class) t.months → P curve m
  here P h = subst (λ p. P p m) x.class (subst (P (curves t.class)) x.months h)

  there : (P : Points → ℕ → Type 0) → P curve m → P (curves t.class) t.months
  there P h = subst (P (curves t.class)) (sym x.months) (subst (λ p. P p m) (sym x.class) h)

  priced : (h value : ℕ) → Only m h → collateral 1000000 h ≡ value
      → ((l : Lot) × Priced curves t l) × ((l : Lot) → Priced curves t l → l.worth ≡ value) × ((k : Cause) → Unpriced curves t k → ⊥)
  priced h value o e = (
    (lot_of t h, record { ranges = x.ranges; haircut = h; at = there (λ p m. Haircut p m h) o.0; lot = refl }),
    (λ l p. ap (λ l. l.worth) p.lot ∙ ap (λ v. collateral v p.haircut) x.market ∙ ap (collateral 1000000) (o.1 _ (here (λ p' m. Haircut p' m p.haircut) p.at)) ∙ e),
    never,
  )
    where
      never : (k : Cause) → Unpriced curves t k → ⊥
      never k (outside not) = not x.ranges
      never k (past range after) = none_past curve accepted.lawful (here Past after) o.0

  unpriced : Past curve m → ((h : ℕ) → Haircut curve m h → ⊥)
      → ((k : Cause) × Unpriced curves t k) × ((k : Cause) → Unpriced curves t k → number k ≡ 18) × ((l : Lot) → Priced curves t l → ⊥)
  unpriced after no-haircut = (
    (PastCurve, past x.ranges (there Past after)),
    by,
    λ l p. no-haircut _ (here (λ p' m. Haircut p' m p.haircut) p.at),
  )
    where
      by : (k : Cause) → Unpriced curves t k → number k ≡ 18
      by k (outside not) = absurd (not x.ranges)
      by k (past range after) = refl

pub curve_figures : CurveFigures
curve_figures =
    record {
      accepted = accepted;
      columns = (refl, same);
      month_30 = month_30;
      value_30 = λ curves t x. priced curves 30 t x 250 975000 month_30 refl;
      month_61 = month_61;
      value_61 = λ curves t x. priced curves 61 t x 406 959400 month_61 refl;
      month_361 = month_361;
      value_361 = λ curves t x. unpriced curves 361 t x month_361.0 month_361.1;
    }
