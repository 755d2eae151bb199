-- The smallest held lot place of an issuer.

use Rattle.std.proofs.Common.{◌≡◌, ℕ, zero, suc, ◌<◌, ◌≤◌, Bool, true, false, cond, sym, refl, ap, ◌∙◌, inl, inr, arith}
use Rattle.std.proofs.lemmas.Bool.{eqb-true, eq-eqb, cases_eq, cases_Bool, cond-true, cond-false, cond_both, both_ways, and_parts, and_from}
use Rattle.table.specs.Table.{Situation, of_issuer}
use Rattle.table.specs.Drawn.{least, slot_of, slot, leads}

pub least_le : (t : ℕ → Bool) (n : ℕ) → least t n ≤ n
unfolding least
least_le t zero = omega arith
least_le t (suc n) = cond_both (t (least t n)) (least t n) (suc n) (λ x. x ≤ suc n) (λ _. omega (arith, least_le t n)) (λ _. omega arith)

-- where some number up to n passes, the least does, and is no greater
pub least_passes : (t : ℕ → Bool) (n l : ℕ) → l ≤ n → t l ≡ true → (t (least t n) ≡ true) × (least t n ≤ l)
unfolding least
least_passes t zero l h y = let e : l ≡ 0 = omega arith in (ap t (sym e) ∙ y, omega arith)
least_passes t (suc n) l h y =
    elim (cases_Bool (t (least t n))) [
      | inl q ↦
          let c = cond-true (t (least t n)) (least t n) (suc n) q in
          (ap t c ∙ q, elim (cases_eq l (suc n)) [ inl e ↦ omega (arith, least_le t n) | inr d ↦ omega (arith, (least_passes t n l (omega arith) y).1) ])
      | inr q ↦
          let c = cond-false (t (least t n)) (least t n) (suc n) q in
          elim (cases_eq l (suc n)) [
            | inl e ↦ (ap t (c ∙ sym e) ∙ y, omega arith)
            | inr d ↦ absurd (both_ways _ q (least_passes t n l (omega arith) y).0)
          ]
    ]

-- tests that agree up to n have the same least number
pub least_same : (t u : ℕ → Bool) (n : ℕ) → ((l : ℕ) → l ≤ n → t l ≡ u l) → least t n ≡ least u n
unfolding least
least_same t u zero h = refl
least_same t u (suc n) h =
    let e = least_same t u n (λ l q. h l (omega arith)) in
    ap (λ x. cond (t x) x (suc n)) e ∙ ap (λ b. cond b (least u n) (suc n)) (h (least u n) (omega (arith, least_le u n)))

-- none of a test's numbers before the least passes
pub least_first : (t : ℕ → Bool) (n r : ℕ) → r ≤ n → t r ≡ true → ((l : ℕ) → l < r → t l ≡ false) → least t n ≡ r
least_first t n r h y z =
    let p = least_passes t n r h y in
    elim (cases_eq (least t n) r) [ inl e ↦ e | inr d ↦ absurd (both_ways _ (z (least t n) (omega (arith, p.1))) p.0) ]

module _ (s : Situation) where
  pub slot_of_low : (i : ℕ) → slot_of s i < 64
  slot_of_low i = omega (arith, least_le (of_issuer s i) 63)

  pub slot_low : (l : ℕ) → l < 64 → slot s l < 64
  slot_low l h = cond_both (s.held l) (slot_of s (s.issuer l)) l (λ x. x < 64) (λ _. slot_of_low (s.issuer l)) (λ _. h)

  -- the slot of a held lot is its issuer's
  pub slot_issuer : (l : ℕ) → s.held l ≡ true → slot s l ≡ slot_of s (s.issuer l)
  slot_issuer l y = cond-true _ _ _ y

  -- and holds a lot of that issuer
  pub slot_of_held : (i l : ℕ) → l < 64 → of_issuer s i l ≡ true → of_issuer s i (slot_of s i) ≡ true
  slot_of_held i l h y = (least_passes (of_issuer s i) 63 l (omega arith) y).0

  pub slot_held : (l : ℕ) → l < 64 → s.held l ≡ true → (s.held (slot s l) ≡ true) × (s.issuer (slot s l) ≡ s.issuer l)
  slot_held l h y =
      let e = slot_issuer l y in
      let p = and_parts (s.held (slot_of s (s.issuer l))) _ (slot_of_held (s.issuer l) l h (and_from (s.held l) _ y (eq-eqb _ _ refl))) in
      (ap s.held e ∙ p.0, ap s.issuer e ∙ eqb-true _ _ p.1)

  pub slot_leads : (l : ℕ) → l < 64 → s.held l ≡ true → leads s (slot s l) ≡ true
  slot_leads l h y =
      let p = slot_held l h y in
      and_from (s.held (slot s l)) _ p.0 (eq-eqb _ _ (slot_issuer (slot s l) p.0 ∙ ap (slot_of s) p.1 ∙ sym (slot_issuer l y)))
