-- To believe: nothing. These are the laws that the definitions of Grammar are shown to have.

use Rattle.std.specs.Prelude.{◌≡◌, ℕ, Bool, ◌&&◌, ◌||◌, List, ◌∷◌, ◌++◌}
use Rattle.grammar.specs.declared.Description.{Description}
use Rattle.grammar.specs.Grammar.{Tree, spell, holds, Means, Least}
use Rattle.grammar.specs.Grammar.Sort.{rule, term}

-- a text is the spelling of one rule at most, so it means one thing at most
abbrev pub OneTree : Type 0
OneTree = (r s : Tree rule) → spell r ≡ spell s → r ≡ s

abbrev pub OneMeaning : Type 0
OneMeaning = (t : List ℕ) (f g : Description → Bool) → Means t f → Means t g → (x : Description) → f x ≡ g x

abbrev pub OneFault : Type 0
OneFault = (t : List ℕ) (c d j k : ℕ) → Least t c j → Least t d k → (c ≡ d) × (j ≡ k)

-- & binds closer than |: what stands for a, b and c in the texts a|b&c and a&b|c
pub record Precedence : Type 0 where
  pub or_and : (a : Tree rule) (b c : Tree term) → Means (spell a ++ 124 ∷ (spell b ++ 38 ∷ spell c)) (λ x. holds a x || (holds b x && holds c x))
  pub and_or : (a b : Tree term) (c : Tree rule) → Means (spell a ++ 38 ∷ (spell b ++ 124 ∷ spell c)) (λ x. (holds a x && holds b x) || holds c x)
