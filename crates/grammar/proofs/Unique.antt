-- A text is the spelling of at most one tree.
--
-- Two trees of one sort, each followed by some text, are compared from the left. What follows a factor is no digit,
-- what follows a term neither a digit nor &, what follows a rule neither of these nor |. So where one tree has a
-- further part and the other has not, the byte that joins the part would have to begin the text after the other
-- tree, which cannot be. And a test, a bracket and a ! differ in their first byte. Equal spellings thus force equal
-- trees and equal rests; a whole text has an empty rest.

use Rattle.std.proofs.Common.{◌≡◌, ℕ, ◌≤◌, Bool, true, false, cond, ◌||◌, T, eqb, List, [], ◌∷◌, ◌++◌, sym, refl, ap, ◌∙◌, subst, append_assoc, append-nil, arith}
use lib.Dec.{T_prop}
use Rattle.std.proofs.lemmas.Bool.{both_ways}
use Rattle.std.proofs.lemmas.Bool.Decides.{nat_tests}
use Rattle.grammar.specs.declared.Field.{Field}
use Rattle.grammar.specs.declared.Field.TheVariants.{Class, Rating, Months, Issuer}
use Rattle.grammar.specs.declared.Sign.{Sign}
use Rattle.grammar.specs.declared.Sign.TheVariants.{Equal, Less, Greater}
use Rattle.grammar.specs.Grammar.{digit, leading, Digits, Number, Sort, Tree, letter, sign, digits, number, spell, holds, Means}
use Rattle.grammar.specs.Grammar.Digits.{none, more}
use Rattle.grammar.specs.Grammar.Number.{nought, figures}
use Rattle.grammar.specs.Grammar.Sort.{rule, term, factor}
use Rattle.grammar.specs.Grammar.Tree.{one, or, sole, and, neg, group, test}
use Rattle.grammar.specs.Laws.{OneTree, OneMeaning}

-- the bytes that would continue a tree of the sort
abbrev pub extends : Sort → ℕ → Bool
extends factor b = digit b
extends term b = digit b || eqb b 38
extends rule b = digit b || (eqb b 38 || eqb b 124)

-- a text that does not begin with such a byte
abbrev pub Stops : (ℕ → Bool) → List ℕ → Type 0
Stops p [] = Unit {0}
Stops p (b ∷ u) = p b ≡ false

stops_at : (p : ℕ → Bool) (u v : List ℕ) (b : ℕ) → Stops p u → u ≡ b ∷ v → p b ≡ true → ⊥
stops_at p u v b h e y = both_ways (p b) (subst (Stops p) e h) y

pub stops_term : (u : List ℕ) → Stops (extends rule) u → Stops (extends term) u
stops_term [] h = tt
stops_term (b ∷ u) h = grind (arith, nat_tests)

pub stops_factor : (u : List ℕ) → Stops (extends term) u → Stops digit u
stops_factor [] h = tt
stops_factor (b ∷ u) h = grind (arith, nat_tests)

T_true : (b : Bool) → T b → b ≡ true
T_true true h = refl
T_true false h = absurd h

more_same : (a b : ℕ) (g : T (digit a)) (h : T (digit b)) (d e : Digits) → a ≡ b → d ≡ e → more a g d ≡ more b h e
more_same a b g h d e p q = subst (λ k. (w : T (digit k)) → more a g d ≡ more k w e) p (λ w. ap (more a g) q ∙ ap (λ z. more a z e) (T_prop (digit a) g w)) h

figures_same : (a b : ℕ) (g : T (leading a)) (h : T (leading b)) (d e : Digits) → a ≡ b → d ≡ e → figures a g d ≡ figures b h e
figures_same a b g h d e p q = subst (λ k. (w : T (leading k)) → figures a g d ≡ figures k w e) p (λ w. ap (figures a g) q ∙ ap (λ z. figures a z e) (T_prop (leading a) g w)) h

pub same_digits : (d e : Digits) (u v : List ℕ) → Stops digit u → Stops digit v → digits d ++ u ≡ digits e ++ v → (d ≡ e) × (u ≡ v)
same_digits none none u v x y q = (refl, q)
same_digits none (more b h e) u v x y q = absurd (stops_at digit u _ b x q (T_true _ h))
same_digits (more a g d) none u v x y q = absurd (stops_at digit v _ a y (sym q) (T_true _ g))
same_digits (more a g d) (more b h e) u v x y q =
    let z : a ≡ b = cc in
    let t : digits d ++ u ≡ digits e ++ v = cc in
    let i = same_digits d e u v x y t in
    (more_same a b g h d e z i.0, i.1)

-- no number begins with 0 and goes on
pub not_leading : (b : ℕ) → T (leading b) → b ≡ 48 → ⊥
not_leading b h e = subst (λ k. T (leading k)) e h

pub same_number : (m n : Number) (u v : List ℕ) → Stops digit u → Stops digit v → number m ++ u ≡ number n ++ v → (m ≡ n) × (u ≡ v)
same_number nought nought u v x y q = (refl, cc)
same_number nought (figures b h e) u v x y q = let z : b ≡ 48 = cc in absurd (not_leading b h z)
same_number (figures a g d) nought u v x y q = let z : a ≡ 48 = cc in absurd (not_leading a g z)
same_number (figures a g d) (figures b h e) u v x y q =
    let z : a ≡ b = cc in
    let t : digits d ++ u ≡ digits e ++ v = cc in
    let i = same_digits d e u v x y t in
    (figures_same a b g h d e z i.0, i.1)

-- a letter and a sign are known by their byte
abbrev letter_of : ℕ → Field
letter_of b = cond (eqb b 99) Class (cond (eqb b 114) Rating (cond (eqb b 109) Months Issuer))

letter_back : (f : Field) → letter_of (letter f) ≡ f
letter_back Class = refl
letter_back Rating = refl
letter_back Months = refl
letter_back Issuer = refl

pub same_letter : (f g : Field) → letter f ≡ letter g → f ≡ g
same_letter f g e = sym (letter_back f) ∙ ap letter_of e ∙ letter_back g

abbrev sign_of : ℕ → Sign
sign_of b = cond (eqb b 61) Equal (cond (eqb b 60) Less Greater)

sign_back : (s : Sign) → sign_of (sign s) ≡ s
sign_back Equal = refl
sign_back Less = refl
sign_back Greater = refl

pub same_sign : (s r : Sign) → sign s ≡ sign r → s ≡ r
same_sign s r e = sym (sign_back s) ∙ ap sign_of e ∙ sign_back r

pub letter_high : (f : Field) → 99 ≤ letter f
letter_high Class = omega arith
letter_high Rating = omega arith
letter_high Months = omega arith
letter_high Issuer = omega arith

same_test : (f g : Field) (s r : Sign) (m n : Number) (u v : List ℕ) → Stops digit u → Stops digit v →
    spell (test f s m) ++ u ≡ spell (test g r n) ++ v → (test f s m ≡ test g r n) × (u ≡ v)
same_test f g s r m n u v x y q =
    let a : letter f ≡ letter g = cc in
    let b : sign s ≡ sign r = cc in
    let t : number m ++ u ≡ number n ++ v = cc in
    let i = same_number m n u v x y t in
    let c = same_letter f g a in
    let d = same_sign s r b in
    let e = i.0 in
    (cc, i.1)

-- the joining byte and the rest after it
tail_same : (b : ℕ) (u v : List ℕ) → b ∷ u ≡ b ∷ v → u ≡ v
tail_same b u v e = cc

pub same : (s : Sort) (a b : Tree s) (u v : List ℕ) → Stops (extends s) u → Stops (extends s) v → spell a ++ u ≡ spell b ++ v → (a ≡ b) × (u ≡ v)
same rule (one a) (one b) u v x y q =
    let i = same term a b u v (stops_term u x) (stops_term v y) q in (ap one i.0, i.1)
same rule (one a) (or b r) u v x y q =
    let i = same term a b u (124 ∷ (spell r ++ v)) (stops_term u x) refl (q ∙ append_assoc (spell b) _ v) in
    absurd (stops_at (extends rule) u _ 124 x i.1 refl)
same rule (or a p) (one b) u v x y q =
    let i = same term a b (124 ∷ (spell p ++ u)) v refl (stops_term v y) (sym (append_assoc (spell a) _ u) ∙ q) in
    absurd (stops_at (extends rule) v _ 124 y (sym i.1) refl)
same rule (or a p) (or b r) u v x y q =
    let i = same term a b (124 ∷ (spell p ++ u)) (124 ∷ (spell r ++ v)) refl refl (sym (append_assoc (spell a) _ u) ∙ q ∙ append_assoc (spell b) _ v) in
    let j = same rule p r u v x y (tail_same 124 _ _ i.1) in
    (ap (λ z. or z p) i.0 ∙ ap (or b) j.0, j.1)
same term (sole a) (sole b) u v x y q =
    let i = same factor a b u v (stops_factor u x) (stops_factor v y) q in (ap sole i.0, i.1)
same term (sole a) (and b r) u v x y q =
    let i = same factor a b u (38 ∷ (spell r ++ v)) (stops_factor u x) refl (q ∙ append_assoc (spell b) _ v) in
    absurd (stops_at (extends term) u _ 38 x i.1 refl)
same term (and a p) (sole b) u v x y q =
    let i = same factor a b (38 ∷ (spell p ++ u)) v refl (stops_factor v y) (sym (append_assoc (spell a) _ u) ∙ q) in
    absurd (stops_at (extends term) v _ 38 y (sym i.1) refl)
same term (and a p) (and b r) u v x y q =
    let i = same factor a b (38 ∷ (spell p ++ u)) (38 ∷ (spell r ++ v)) refl refl (sym (append_assoc (spell a) _ u) ∙ q ∙ append_assoc (spell b) _ v) in
    let j = same term p r u v x y (tail_same 38 _ _ i.1) in
    (ap (λ z. and z p) i.0 ∙ ap (and b) j.0, j.1)
same factor (neg a) (neg b) u v x y q =
    let i = same factor a b u v x y (tail_same 33 _ _ q) in (ap neg i.0, i.1)
same factor (neg a) (group r) u v x y q = absurd (let z : ◌≡◌ {A = ℕ} 33 40 = cc in omega arith)
same factor (neg a) (test g r n) u v x y q = absurd (let z : 33 ≡ letter g = cc in omega (arith, letter_high g))
same factor (group p) (neg b) u v x y q = absurd (let z : ◌≡◌ {A = ℕ} 33 40 = cc in omega arith)
same factor (group p) (group r) u v x y q =
    let i = same rule p r (41 ∷ u) (41 ∷ v) refl refl (sym (append_assoc (spell p) _ u) ∙ tail_same 40 _ _ q ∙ append_assoc (spell r) _ v) in
    (ap group i.0, tail_same 41 u v i.1)
same factor (group p) (test g r n) u v x y q = absurd (let z : 40 ≡ letter g = cc in omega (arith, letter_high g))
same factor (test f s m) (neg b) u v x y q = absurd (let z : 33 ≡ letter f = cc in omega (arith, letter_high f))
same factor (test f s m) (group r) u v x y q = absurd (let z : 40 ≡ letter f = cc in omega (arith, letter_high f))
same factor (test f s m) (test g r n) u v x y q = same_test f g s r m n u v x y q

pub one_tree : OneTree
one_tree r s e = (same rule r s [] [] tt tt (append-nil (spell r) ∙ e ∙ sym (append-nil (spell s)))).0

-- a tree of the text gives the text its meaning
pub means_as : (r : Tree rule) → Means (spell r) (holds r)
means_as r = record { text = (r, refl); meaning = λ s e x. ap (λ q. holds q x) (one_tree s r e) }

pub one_meaning : OneMeaning
one_meaning t f g a b x = let r = a.text in sym (a.meaning r.0 r.1 x) ∙ b.meaning r.0 r.1 x
