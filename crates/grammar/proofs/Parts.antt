-- Parts of a rule's text: its beginnings, its first factor, the bytes of a number.

use Rattle.std.proofs.Common.{◌≡◌, ℕ, ◌+◌, ◌-◌, ◌*◌, ◌≤◌, Bool, true, false, cond, List, [], ◌∷◌, ◌++◌, length, take, drop, sym, refl, ap, ◌∙◌, subst, append_assoc, append-nil, arith, length-append, take-append-drop}
use Rattle.grammar.specs.Grammar.{digit, Digits, Number, Sort, Tree, digits, number, spell, value, amount, count, Begins}
use Rattle.grammar.specs.Grammar.Digits.{none, more}
use Rattle.grammar.specs.Grammar.Number.{nought, figures}
use Rattle.grammar.specs.Grammar.Sort.{rule, term, factor}
use Rattle.grammar.specs.Grammar.Tree.{one, or, sole, and, neg, group, test}
use Rattle.grammar.proofs.Unique.{Stops, not_leading}

-- every beginning of a rule begins a rule
pub part_begins : (r : Tree rule) (k : ℕ) → Begins (take k (spell r))
part_begins r k = (drop k (spell r), (r, sym (take-append-drop k (spell r))))

pub spell_some : {s : Sort} (t : Tree s) → 1 ≤ length (spell t)
spell_some (one t) = spell_some t
spell_some (or t r) = omega (arith, length-append (spell t) (124 ∷ spell r))
spell_some (sole f) = spell_some f
spell_some (and f t) = omega (arith, length-append (spell f) (38 ∷ spell t))
spell_some (neg f) = omega arith
spell_some (group r) = omega arith
spell_some (test f s n) = omega arith

pub count_few : (p : ℕ → Bool) (t : List ℕ) → count p t ≤ length t
count_few p [] = omega arith
count_few p (b ∷ t) = go (p b) (count_few p t)
  where
    go : (v : Bool) → count p t ≤ length t → cond v 1 0 + count p t ≤ length (b ∷ t)
    go true h = omega arith
    go false h = omega arith

-- a tree's text is a factor's, and then one that does not begin with a digit
pub record Head (t : List ℕ) : Type 0 where
  pub first : Tree factor
  pub rest : List ℕ
  pub is : t ≡ spell first ++ rest
  pub stops : Stops digit rest

stops_before : (p : ℕ → Bool) (v w : List ℕ) (b : ℕ) → Stops p v → p b ≡ false → Stops p (v ++ b ∷ w)
stops_before p [] w b h e = e
stops_before p (c ∷ v) w b h e = h

head_before : (t w : List ℕ) (b : ℕ) → digit b ≡ false → Head t → Head (t ++ b ∷ w)
head_before t w b e h = record {
  first = h.first;
  rest = h.rest ++ b ∷ w;
  is = ap (λ v. v ++ b ∷ w) h.is ∙ append_assoc (spell h.first) h.rest (b ∷ w);
  stops = stops_before digit h.rest w b h.stops e;
}

pub head : (s : Sort) (t : Tree s) → Head (spell t)
head rule (one t) = head term t
head rule (or t r) = head_before (spell t) (spell r) 124 refl (head term t)
head term (sole f) = head factor f
head term (and f t) = head_before (spell f) (spell t) 38 refl (head factor f)
head factor f = record { first = f; rest = []; is = sym (append-nil (spell f)); stops = tt }

-- more digits make a number no smaller
pub value_grows : (v : ℕ) (d : Digits) → v ≤ value v d
value_grows v none = omega arith
value_grows v (more b h d) = omega (arith, value_grows (10 * v + (b - 48)) d)

value_part : (v : ℕ) (d e : Digits) (u : List ℕ) → digits d ++ u ≡ digits e → value v d ≤ value v e
value_part v none e u q = value_grows v e
value_part v (more a g d) none u q = absurd (omega (arith, ap length q))
value_part v (more a g d) (more b h e) u q =
    let z : a ≡ b = cc in
    let w : digits d ++ u ≡ digits e = cc in
    subst (λ k. value (10 * v + (a - 48)) d ≤ value (10 * v + (k - 48)) e) z (value_part (10 * v + (a - 48)) d e u w)

pub amount_part : (m n : Number) (u : List ℕ) → number m ++ u ≡ number n → amount m ≤ amount n
amount_part nought n u q = omega arith
amount_part (figures a g d) nought u q =
    let z : a ≡ 48 = cc in absurd (not_leading a g z)
amount_part (figures a g d) (figures b h e) u q =
    let z : a ≡ b = cc in
    let w : digits d ++ u ≡ digits e = cc in
    subst (λ k. value (a - 48) d ≤ value (k - 48) e) z (value_part (a - 48) d e u w)
