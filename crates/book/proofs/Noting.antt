-- Answers that are written down one after the other, and what they amount to.

use Rattle.std.proofs.Common.{◌≡◌, ℕ, ◌+◌, ◌*◌, ◌/◌, ◌%◌, ◌^◌, ◌<◌, Bool, true, false, ◌&&◌, eqb, List, length, is_some, Some, None, Option, option_map, sym, refl, ap, ◌∙◌, inl, inr, arith, eq-eqb}
use Rattle.std.proofs.lemmas.Bool.{eqb-true, cases_lt}
use Rattle.std.proofs.lemmas.List.{get_or_past}
use Rattle.binder.specs.Meaning.{Meaning}
use Rattle.table.specs.Drawn.{least}
use Rattle.table.specs.Agreement.{Agrees}
use Rattle.table.proofs.Slots.{least_passes, least_le}
use Rattle.cover.specs.declared.problem.Lot.{Lot as Held}
use Rattle.cover.specs.declared.problem.Terms.{Terms}
use Rattle.cover.specs.View.{at, situation, terms_at, Small}
use Rattle.cover.specs.View.{lot_at as held_lot_at, exposure_at as amount_at, issuer_of as issuer_held, worth_of as worth_held, amount_of as amount_held}
use Rattle.curve.specs.declared.lot.Lot.{Lot}
use Rattle.calls.specs.declared.Exposure.{Exposure}
use Rattle.calls.specs.State.{lot_at, exposure_at, held_at, open_at}
use Rattle.calls.specs.Situation.{issuer_of, worth_of, amount_of, limit_of, situation_of}
use Rattle.book.specs.Kept.{Worths, Amounts}
use Rattle.book.specs.Asked.{held_as, limit_for, terms_for}

-- a limit at a held lot and an open exposure is that of the lot's issuer
limit_held : (m : Meaning) (l : Option Lot) (x : Option Exposure) → is_some l ≡ true → is_some x ≡ true → limit_for m l x ≡ limit_of m x (issuer_of l)
limit_held m None x h k = let z : ◌≡◌ {A = ℕ} 0 1 = cc in absurd (omega arith)
limit_held m (Some l) None h k = let z : ◌≡◌ {A = ℕ} 0 1 = cc in absurd (omega arith)
limit_held m (Some l) (Some x) h k = refl

both_true : (a b : Bool) → a ≡ true → b ≡ true → (a && b) ≡ true
both_true true b h k = k
both_true false b h k = h

left_true : (a b : Bool) → (a && b) ≡ true → a ≡ true
left_true true b h = refl
left_true false b h = h

right_true : (a b : Bool) → (a && b) ≡ true → b ≡ true
right_true true b h = h
right_true false b h = let z : ◌≡◌ {A = ℕ} 0 1 = cc in absurd (omega arith)

-- the fields of what is written down are those of the lot and of the exposure
same_held : (l : Option Lot) → is_some (option_map held_as l) ≡ is_some l
same_held None = refl
same_held (Some l) = refl

same_issuer : (l : Option Lot) → issuer_held (option_map held_as l) ≡ issuer_of l
same_issuer None = refl
same_issuer (Some l) = refl

same_worth : (l : Option Lot) → worth_held (option_map held_as l) ≡ worth_of l
same_worth None = refl
same_worth (Some l) = refl

same_open : (x : Option Exposure) → is_some (option_map (λ x. x.amount) x) ≡ is_some x
same_open None = refl
same_open (Some x) = refl

same_amount : (x : Option Exposure) → amount_held (option_map (λ x. x.amount) x) ≡ amount_of x
same_amount None = refl
same_amount (Some x) = refl

-- What is written down says the same as the book and the binder, wherever a lot is held and an exposure open: a limit stands at the
-- smallest held lot place of the issuer, which is a place of that issuer.
module _ (lots : List (Option Lot)) (xs : List (Option Exposure)) (held : List (Option Held)) (amounts : List (Option ℕ))
    (nl : (l : ℕ) → l < 64 → held_lot_at held l ≡ option_map held_as (lot_at lots l))
    (ne : (e : ℕ) → e < 16 → amount_at amounts e ≡ option_map (λ x. x.amount) (exposure_at xs e)) where
  held_is : (l : ℕ) → l < 64 → is_some (held_lot_at held l) ≡ held_at lots l
  held_is l h = ap is_some (nl l h) ∙ same_held (lot_at lots l)

  issuer_is : (l : ℕ) → l < 64 → issuer_held (held_lot_at held l) ≡ issuer_of (lot_at lots l)
  issuer_is l h = ap issuer_held (nl l h) ∙ same_issuer (lot_at lots l)

  worth_is : (l : ℕ) → l < 64 → worth_held (held_lot_at held l) ≡ worth_of (lot_at lots l)
  worth_is l h = ap worth_held (nl l h) ∙ same_worth (lot_at lots l)

  opened_is : (e : ℕ) → e < 16 → is_some (amount_at amounts e) ≡ open_at xs e
  opened_is e h = ap is_some (ne e h) ∙ same_open (exposure_at xs e)

  amount_is : (e : ℕ) → e < 16 → amount_held (amount_at amounts e) ≡ amount_of (exposure_at xs e)
  amount_is e h = ap amount_held (ne e h) ∙ same_amount (exposure_at xs e)

  pub small : (bounds : List ℕ) → length held ≡ 64 → length amounts ≡ 16 → Worths lots → Amounts xs → ((k : ℕ) → at bounds k < 2 ^ 40) → Small held amounts bounds
  small bounds len-held len-amounts w a low = record {
    worths = λ l. elim (cases_lt l 64) [
      | inl h ↦ omega (arith, worth_is l h, w l)
      | inr h ↦ omega (arith, ap worth_held (get_or_past held l None (omega arith)))
    ];
    amounts = λ e. elim (cases_lt e 16) [
      | inl h ↦ omega (arith, amount_is e h, a e)
      | inr h ↦ omega (arith, ap amount_held (get_or_past amounts e None (omega arith)))
    ];
    limits = low;
  }

  module _ (m : Meaning) (admitted : List Bool) (limits : List ℕ) (np : (k : ℕ) → k < 1024 → terms_at admitted limits k ≡ terms_for m (lot_at lots (k / 16)) (exposure_at xs (k % 16))) where
    terms_there : (l e : ℕ) → l < 64 → e < 16 → terms_at admitted limits (l * 16 + e) ≡ terms_for m (lot_at lots l) (exposure_at xs e)
    terms_there l e hl he =
        let p : (l * 16 + e) / 16 ≡ l = omega arith in
        let q : (l * 16 + e) % 16 ≡ e = omega arith in
        np (l * 16 + e) (omega arith) ∙ ap (λ a. terms_for m (lot_at lots a) (exposure_at xs ((l * 16 + e) % 16))) p ∙ ap (λ b. terms_for m (lot_at lots l) (exposure_at xs b)) q

    same_limit : (l e : ℕ) → l < 64 → e < 16 → held_at lots l ≡ true → open_at xs e ≡ true
        → limit_of m (exposure_at xs e) (issuer_of (lot_at lots l)) ≡ at limits (least (λ k. is_some (held_lot_at held k) && eqb (issuer_held (held_lot_at held k)) (issuer_of (lot_at lots l))) 63 * 16 + e)
    same_limit l e hl he hh ho =
        let i = issuer_of (lot_at lots l) in
        let test : ℕ → Bool = λ k. is_some (held_lot_at held k) && eqb (issuer_held (held_lot_at held k)) i in
        let mine : test l ≡ true = both_true _ _ (held_is l hl ∙ hh) (eq-eqb (issuer_held (held_lot_at held l)) i (issuer_is l hl)) in
        let t = least test 63 in
        let first = least_passes test 63 l (omega arith) mine in
        let low : t < 64 = omega (arith, least_le test 63) in
        let on : held_at lots t ≡ true = sym (held_is t low) ∙ left_true _ _ first.0 in
        let is : issuer_of (lot_at lots t) ≡ i = sym (issuer_is t low) ∙ eqb-true (issuer_held (held_lot_at held t)) i (right_true (is_some (held_lot_at held t)) _ first.0) in
        sym (ap (λ (r : Terms). r.limit) (terms_there t e low he) ∙ (limit_held m (lot_at lots t) (exposure_at xs e) on ho ∙ ap (limit_of m (exposure_at xs e)) is))

    pub agrees : Agrees (situation_of m lots xs) (situation held amounts admitted limits)
    agrees = record {
      held = λ l h. sym (held_is l h);
      issuer = λ l h k. sym (issuer_is l h);
      worth = λ l h k. sym (worth_is l h);
      opened = λ e h. sym (opened_is e h);
      amount = λ e h k. sym (amount_is e h);
      admits = λ l e hl he k j. sym (ap (λ (r : Terms). r.admitted) (terms_there l e hl he));
      limit = λ l e hl he hh ho. same_limit l e hl he hh ho;
    }
