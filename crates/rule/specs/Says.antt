-- To believe: what loading a text does. `says` names what a rule that is held answers; how it comes to its answers
-- does not matter to a reader, since loading ties them to the meaning of the text, and asking gives them. What texts
-- mean and where they are at fault is defined in the crate grammar.

use Rattle.std.specs.Prelude.{◌≡◌, ℕ, Bool, ◌⊎◌, List, Ok, Err, Result}
use Rattle.cause.specs.Numbers.{number as listed}
use Rattle.grammar.specs.declared.Description.{Description}
use Rattle.grammar.specs.Grammar.{Faultless, Least, Means}
use Rattle.rule.specs.declared.fault.TextFault.{TextFault}
use Rattle.rule.specs.declared.held.Rule.{Rule}
use Rattle.rule.specs.Stack.{acts, top}
use Rattle.rule.specs.Views.{code}

abbrev pub says : Rule → Description → Bool
says r x = top (acts x (code r) 0)

-- the text has no fault, and means f
pub record Accepted (t : List ℕ) (f : Description → Bool) : Type 0 where
  pub sound : Faultless t
  pub means : Means t f

-- loading t into the rule `before`: the text is accepted, and the rule says what it means; or it is refused for its
-- least fault, and the rule is as it was
abbrev pub Loaded : List ℕ → Rule → Rule → Result (Unit {0}) TextFault → Type 0
Loaded t before after (Ok u) = Accepted t (says after)
Loaded t before after (Err e) = Least t (listed e.cause) e.place × (after ≡ before)

-- every text is accepted with a meaning, or has a least fault
abbrev pub Decided : Type 0
Decided = (t : List ℕ) → ((f : Description → Bool) × Accepted t f) ⊎ ((c : ℕ) × (k : ℕ) × Least t c k)
