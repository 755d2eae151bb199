-- Two rules joined by | are a rule, two terms joined by & a term, and the joined trees say what the parts say. With
-- one tree to a text, that is the meaning of the joined text, and & is inside what | joins.

use Rattle.std.proofs.Common.{◌≡◌, ℕ, Bool, true, false, ◌&&◌, ◌||◌, List, ◌∷◌, ◌++◌, sym, refl, ap, ◌∙◌, append_assoc}
use Rattle.grammar.specs.declared.Description.{Description}
use Rattle.grammar.specs.Grammar.{Tree, spell, holds, Means}
use Rattle.grammar.specs.Grammar.Sort.{rule, term}
use Rattle.grammar.specs.Grammar.Tree.{one, or, sole, and}
use Rattle.grammar.specs.Laws.{Precedence}
use Rattle.grammar.proofs.Unique.{one_tree}

abbrev pub either : Tree rule → Tree rule → Tree rule
either (one t) r = or t r
either (or t p) r = or t (either p r)

pub either_spelled : (p r : Tree rule) → spell (either p r) ≡ spell p ++ 124 ∷ spell r
either_spelled (one t) r = refl
either_spelled (or t p) r = ap (λ v. spell t ++ 124 ∷ v) (either_spelled p r) ∙ sym (append_assoc (spell t) _ _)

or_assoc : (a b c : Bool) → (a || (b || c)) ≡ ((a || b) || c)
or_assoc true b c = refl
or_assoc false b c = refl

and_assoc : (a b c : Bool) → (a && (b && c)) ≡ ((a && b) && c)
and_assoc true b c = refl
and_assoc false b c = refl

either_holds : (p r : Tree rule) (x : Description) → holds (either p r) x ≡ (holds p x || holds r x)
either_holds (one t) r x = refl
either_holds (or t p) r x = ap (λ v. holds t x || v) (either_holds p r x) ∙ or_assoc (holds t x) (holds p x) (holds r x)

abbrev pub both : Tree term → Tree term → Tree term
both (sole f) t = and f t
both (and f s) t = and f (both s t)

pub both_spelled : (s t : Tree term) → spell (both s t) ≡ spell s ++ 38 ∷ spell t
both_spelled (sole f) t = refl
both_spelled (and f s) t = ap (λ v. spell f ++ 38 ∷ v) (both_spelled s t) ∙ sym (append_assoc (spell f) _ _)

both_holds : (s t : Tree term) (x : Description) → holds (both s t) x ≡ (holds s x && holds t x)
both_holds (sole f) t x = refl
both_holds (and f s) t x = ap (λ v. holds f x && v) (both_holds s t x) ∙ and_assoc (holds f x) (holds s x) (holds t x)

-- a text that a tree spells means what the tree says
pub means_by : (r : Tree rule) (t : List ℕ) (f : Description → Bool) → spell r ≡ t → ((x : Description) → holds r x ≡ f x) → Means t f
means_by r t f e h = record { text = (r, e); meaning = λ s q x. ap (λ v. holds v x) (one_tree s r (q ∙ sym e)) ∙ h x }

pub precedence : Precedence
precedence = record {
  or_and = λ a b c. means_by (either a (one (both b c))) _ _
      (either_spelled a (one (both b c)) ∙ ap (λ v. spell a ++ 124 ∷ v) (both_spelled b c))
      (λ x. either_holds a (one (both b c)) x ∙ ap (λ v. holds a x || v) (both_holds b c x));
  and_or = λ a b c. means_by (or (both a b) c) _ _
      (ap (λ v. v ++ 124 ∷ spell c) (both_spelled a b) ∙ append_assoc (spell a) _ _)
      (λ x. ap (λ v. v || holds c x) (both_holds a b x));
}
