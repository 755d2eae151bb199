-- The worked figures, each by giving the tree of the text or by going through the faults that a short text can have.

use Rattle.std.proofs.Common.{◌≡◌, ℕ, ◌+◌, ◌<◌, ◌≤◌, Bool, true, ◌&&◌, eqb, ltb, ◌⊎◌, List, [], ◌∷◌, ◌++◌, length, take, codes, sym, refl, ap, ◌∙◌, subst, inl, inr, arith, lit<, length-take-le}
use lib.Seq.{take-append-le}
use Rattle.std.proofs.lemmas.Bool.{true≢false, ltb-true, and_parts, cases_lt}
use Rattle.grammar.specs.declared.Field.{Field}
use Rattle.grammar.specs.declared.Field.TheVariants.{Rating, Months, Issuer}
use Rattle.grammar.specs.declared.Sign.{Sign}
use Rattle.grammar.specs.declared.Sign.TheVariants.{Equal, Less}
use Rattle.grammar.specs.declared.Description.{Description}
use Rattle.grammar.specs.Grammar.{digit, Number, Tree, letter, sign, number, spell, amount, holds, largest, step, count, IsRule, Begins, Fault, Faultless, Least}
use Rattle.grammar.specs.Grammar.Digits.{none, more}
use Rattle.grammar.specs.Grammar.Number.{nought, figures}
use Rattle.grammar.specs.Grammar.Sort.{rule, factor}
use Rattle.grammar.specs.Grammar.Tree.{one, or, sole, and, neg, group, test}
use Rattle.grammar.specs.Grammar.Fault.{long, unexpected, ended, over, deep, steps}
use Rattle.grammar.specs.Figures.{Says, lot, Figures}
use Rattle.grammar.proofs.Unique.{one_tree, Stops, not_leading, letter_high}
use Rattle.grammar.proofs.Parts.{part_begins, spell_some, count_few, head, amount_part}

-- no letter in a text of low bytes
abbrev low : List ℕ → Bool
low [] = true
low (b ∷ t) = ltb b 99 && low t

no_letter : (q u : List ℕ) (f : Field) → low (q ++ letter f ∷ u) ≡ true → ⊥
no_letter [] u f e = omega (arith, letter_high f, ltb-true (letter f) 99 (and_parts (ltb (letter f) 99) (low u) e).0)
no_letter (b ∷ q) u f e = no_letter q u f (and_parts (ltb b 99) (low (q ++ letter f ∷ u)) e).1

-- the faults of a short text are unexpected bytes and large numbers
module _ (t : List ℕ) (P : ℕ → ℕ → Type 0) (h : length t < 16)
    (byte : (k : ℕ) → k < length t → (Begins (take (k + 1) t) → ⊥) → P 6 k) (end : (IsRule t → ⊥) → P 6 (length t))
    (large : (q : List ℕ) (f : Field) (s : Sign) (n : Number) (u : List ℕ) → t ≡ q ++ letter f ∷ (sign s ∷ (number n ++ u)) → largest < amount n → P 7 (length q + 2)) where
  part_few : (p : ℕ → Bool) (k : ℕ) → k < length t → count p (take k t) < 16
  part_few p k g = omega (arith, count_few p (take k t), length-take-le k t (omega arith))

  short : {c k : ℕ} → Fault t c k → P c k
  short (long g) = absurd (omega arith)
  short (unexpected k g b a) = byte k g a
  short (ended b a) = end a
  short (over q f s n u e g) = large q f s n u e g
  short (deep k g b a) = absurd (omega (arith, part_few (eqb 40) k g))
  short (steps k g b a) = absurd (omega (arith, part_few step k g))

-- r<11&(m<121|i=7)
abbrev example : Tree rule
example = one (and (test Rating Less (figures 49 tt (more 49 tt none)))
    (sole (group (or (sole (test Months Less (figures 49 tt (more 50 tt (more 49 tt none)))))
    (one (sole (test Issuer Equal (figures 55 tt none))))))))

says : (x : Description) → Says (codes "r<11&(m<121|i=7)") x (holds example x)
says x = ((example, refl), λ r e. ap (λ q. holds q x) (one_tree r example e))

-- m< and a number
abbrev months_less : Number → Tree rule
months_less n = one (sole (test Months Less n))

abbrev greatest : Number
greatest = figures 54 tt (more 53 tt (more 53 tt (more 51 tt (more 53 tt none))))

abbrev beyond : Number
beyond = figures 54 tt (more 53 tt (more 53 tt (more 51 tt (more 54 tt none))))

months_over : (n : Number) (q : List ℕ) (f : Field) (s : Sign) (m : Number) (u : List ℕ) → low (60 ∷ number n) ≡ true →
    spell (months_less n) ≡ q ++ letter f ∷ (sign s ∷ (number m ++ u)) → (q ≡ []) × (number m ++ u ≡ number n)
months_over n [] f s m u l e = (refl, cc)
months_over n (b ∷ q) f s m u l e =
    let z : 60 ∷ number n ≡ q ++ letter f ∷ (sign s ∷ (number m ++ u)) = cc in
    absurd (no_letter q (sign s ∷ (number m ++ u)) f (subst (λ v. low v ≡ true) z l))

faultless : Faultless (codes "m<65535")
faultless c k f = short (codes "m<65535") (λ _ _. ⊥) (lit< tt)
    (λ k g a. a (part_begins (months_less greatest) (k + 1)))
    (λ a. a (months_less greatest, refl))
    (λ q f s n u e g. omega (arith, amount_part n greatest u (months_over greatest q f s n u refl e).1)) f

beyond_least : Least (codes "m<65536") 7 2
beyond_least = record {
  is = over [] Months Less beyond [] refl (lit< tt);
  least = λ d j f. short (codes "m<65536") (λ d j. (2 < j) ⊎ ((2 ≡ j) × (7 ≤ d))) (lit< tt)
      (λ k g a. absurd (a (part_begins (months_less beyond) (k + 1))))
      (λ a. absurd (a (months_less beyond, refl)))
      (λ q f s n u e g. inr (sym (ap (λ v. length v + 2) (months_over beyond q f s n u refl e).0), omega arith)) f;
}

at_once : (d j : ℕ) → 6 ≤ d → (0 < j) ⊎ ((0 ≡ j) × (6 ≤ d))
at_once d j h = elim (cases_lt 0 j) [ inl g ↦ inl g | inr g ↦ inr (omega arith, h) ]

empty_least : Least [] 6 0
empty_least = record {
  is = ended (spell (months_less nought), (months_less nought, refl)) (λ r. omega (arith, spell_some r.0, ap length r.1));
  least = λ d j f. short [] (λ d j. (0 < j) ⊎ ((0 ≡ j) × (6 ≤ d))) (lit< tt)
      (λ k g a. at_once 6 k (omega arith)) (λ a. at_once 6 0 (omega arith)) (λ q f s n u e g. at_once 7 (length q + 2) (omega arith)) f;
}

-- r<0
abbrev nought_rule : Tree rule
nought_rule = one (sole (test Rating Less nought))

first_zero : (f : Tree factor) (v u : List ℕ) → Stops digit v → spell f ++ v ≡ 114 ∷ (60 ∷ (48 ∷ (49 ∷ u))) → ⊥
first_zero (neg f) v u h e = let z : ◌≡◌ {A = ℕ} 33 114 = cc in omega arith
first_zero (group r) v u h e = let z : ◌≡◌ {A = ℕ} 40 114 = cc in omega arith
first_zero (test f s nought) v u h e =
    let z : v ≡ 49 ∷ u = cc in
    true≢false (subst (Stops digit) z h)
first_zero (test f s (figures b g d)) v u h e = let z : b ≡ 48 = cc in not_leading b g z

leading_zero : Least (codes "r<01") 6 3
leading_zero = record {
  is = unexpected 3 (lit< tt) (part_begins nought_rule 3)
      (λ b. let h = head rule b.1.0 in first_zero h.first h.rest b.0 h.stops (sym h.is ∙ b.1.1));
  least = λ d j f. short (codes "r<01") (λ d j. (3 < j) ⊎ ((3 ≡ j) × (6 ≤ d))) (lit< tt)
      (λ k g a. elim (cases_lt k 3) [
        | inl x ↦ absurd (a (subst Begins (sym (take-append-le (k + 1) (spell nought_rule) (49 ∷ []) (omega arith))) (part_begins nought_rule (k + 1))))
        | inr x ↦ inr (omega arith, omega arith)
      ])
      (λ a. inl (lit< tt))
      (λ q f s n u e g. absurd (large q f s n u e g)) f;
}
  where
    large : (q : List ℕ) (f : Field) (s : Sign) (n : Number) (u : List ℕ) → codes "r<01" ≡ q ++ letter f ∷ (sign s ∷ (number n ++ u)) → largest < amount n → ⊥
    large [] f s nought u e g = omega arith
    large [] f s (figures b h d) u e g = let z : b ≡ 48 = cc in not_leading b h z
    large (b ∷ q) f s n u e g =
        let z : 60 ∷ (48 ∷ (49 ∷ [])) ≡ q ++ letter f ∷ (sign s ∷ (number n ++ u)) = cc in
        no_letter q (sign s ∷ (number n ++ u)) f (subst (λ v. low v ≡ true) z refl)

pub figured : Figures
figured = (λ c. says (lot c 10 120 3), λ c. says (lot c 10 121 3), faultless, beyond_least, empty_least, leading_zero)
