-- What comes of pricing a lot, as the relation over calls says it.

use Rattle.std.proofs.Common.{◌≡◌, ℕ, zero, suc, ◌<◌, ◌≤◌, Bool, true, false, ltb, leb, List, [], ◌∷◌, Some, None, refl, ap, arith}
use Rattle.std.proofs.lemmas.Bool.Decides.{nat_tests}
use Rattle.std.proofs.lemmas.Bool.{and_parts, and_from}
use Rattle.cause.specs.declared.Cause.{Cause}
use Rattle.binder.specs.Meaning.{Meaning}
use Rattle.curve.specs.Points.{Points, Lawful, Haircut, Past}
use Rattle.curve.specs.Lot.{InRange, Priced, Unpriced}
use Rattle.curve.specs.Lot.Unpriced.{outside, past}
use Rattle.curve.specs.Card.{nth_points}
use Rattle.curve.specs.declared.curve.Curve.{Curve}
use Rattle.curve.specs.declared.card.Card.{Card}
use Rattle.curve.specs.declared.lot.Terms.{Terms}
use Rattle.curve.specs.declared.lot.Lot.{Lot}
use Rattle.curve.proofs.Ordered.{none_past, value_low}
use Rattle.calls.specs.State.{State, held_at}
use Rattle.calls.specs.Call.{in_range, past_end, curve_of, cause, kept}
use Rattle.calls.specs.Call.Call.{add}
use Rattle.calls.specs.Call.Outcome.{added, refused}
use Rattle.calls.specs.Step.{Step, with_lot}
use Rattle.book.proofs.Steps.{granted}

-- every curve of a card is lawful
pub card_lawful : (cs : List Curve) (k : ℕ) → Lawful (nth_points cs k)
card_lawful [] k = record { some = omega arith; few = omega arith; months = λ j h. grind (arith, nat_tests); haircuts = λ j h. grind (arith, nat_tests) }
card_lawful (c ∷ cs) zero = record { some = c.some.0; few = c.some.1; months = c.rising; haircuts = c.falling }
card_lawful (c ∷ cs) (suc k) = card_lawful cs k

le_true : (a b : ℕ) → a ≤ b → leb a b ≡ true
le_true a b h = grind (arith, nat_tests)

pub ranges_true : (t : Terms) → InRange t → in_range t ≡ true
ranges_true t r =
    and_from _ _ (le_true _ _ r.issuer) (and_from _ _ (le_true _ _ r.class) (and_from _ _ (le_true _ _ r.rated) (and_from _ _ (le_true _ _ r.rating)
    (and_from _ _ (le_true _ _ r.months) (and_from _ _ (le_true _ _ r.positive) (le_true _ _ r.market))))))

true_le : (a b : ℕ) → leb a b ≡ true → a ≤ b
true_le a b h = grind (arith, nat_tests)

ranges_from : (t : Terms) → in_range t ≡ true → InRange t
ranges_from t h =
    let p₁ = and_parts (leb t.issuer 255) _ h in
    let p₂ = and_parts (leb t.class 7) _ p₁.1 in
    let p₃ = and_parts (leb 1 t.rating) _ p₂.1 in
    let p₄ = and_parts (leb t.rating 22) _ p₃.1 in
    let p₅ = and_parts (leb t.months 1200) _ p₄.1 in
    let p₆ = and_parts (leb 1 t.market) _ p₅.1 in
    record {
      issuer = true_le _ _ p₁.0;
      class = true_le _ _ p₂.0;
      rated = true_le _ _ p₃.0;
      rating = true_le _ _ p₄.0;
      months = true_le _ _ p₅.0;
      positive = true_le _ _ p₆.0;
      market = true_le _ _ p₆.1;
    }

by_cases : (b : Bool) (P : Type 0) → (b ≡ true → P) → (P → ⊥) → b ≡ false
by_cases true P h n = absurd (n (h refl))
by_cases false P h n = refl

ranges_false : (t : Terms) → (InRange t → ⊥) → in_range t ≡ false
ranges_false t n = by_cases (in_range t) (InRange t) (ranges_from t) n

less_true : (a b : ℕ) → a < b → ltb a b ≡ true
less_true a b h = grind (arith, nat_tests)

true_less : (a b : ℕ) → ltb a b ≡ true → a < b
true_less a b h = grind (arith, nat_tests)

at_end : (k : Card) (t : Terms) {h : ℕ} → Haircut (curve_of k t.class) t.months h → past_end (curve_of k t.class) t.months ≡ false
at_end k t x = by_cases (past_end (curve_of k t.class) t.months) (Past (curve_of k t.class) t.months)
    (λ e. true_less _ _ e) (λ p. none_past (curve_of k t.class) (card_lawful k.curves t.class) p x)

-- a worth is small
pub worth_low : (k : ℕ → Points) (t : Terms) (l : Lot) → Priced k t l → l.worth < 1099511627776
worth_low k t l p = rw (ap (λ (x : Lot). x.worth) p.lot) (omega (arith, value_low t.market p.haircut, p.ranges.market))

module _ (m : Meaning) (s : State) (p : ℕ) (t : Terms) (k : Card) (place : ltb 63 p ≡ false) (idle : s.in_run ≡ false) (empty : held_at s.lots p ≡ false) where
  pub priced_step : (l : Lot) → Priced (nth_points k.curves) t l → Step m (add p t k) s (added l.worth) (with_lot s p (Some l))
  priced_step l x =
      let none : cause m s (add p t k) ≡ None = rw (place, idle, empty, ranges_true t x.ranges, at_end k t x.at) refl in
      granted m (add p t k) s _ _ none (x.haircut, x.at, ap (λ (y : Lot). added y.worth) x.lot, ap (λ (y : Lot). with_lot s p (Some y)) x.lot)

  pub unpriced_step : {e : Cause} → Unpriced (nth_points k.curves) t e → Step m (add p t k) s (refused e (kept (add p t k))) s
  unpriced_step (outside n) = rw (place, idle, empty, ranges_false t n) (refl, refl)
  unpriced_step (past r q) = rw (place, idle, empty, ranges_true t r, less_true _ _ q) (refl, refl)
