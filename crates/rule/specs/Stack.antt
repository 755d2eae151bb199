-- To believe: nothing. A device of the proofs: what steps do to a stack of answers. The stack is the bits of a number,
-- the last answer lowest.

use Rattle.std.specs.Prelude.{ℕ, ◌+◌, ◌*◌, ◌/◌, ◌%◌, Bool, cond, not, ◌&&◌, ◌||◌, List, [], ◌∷◌, ◌==◌}
use Rattle.grammar.specs.declared.Description.{Description}
use Rattle.grammar.specs.Grammar.{field, compares}
use Rattle.rule.specs.declared.steps.Step.{Step}
use Rattle.rule.specs.declared.steps.Step.TheVariants.{Test, Negate, Both, Either}

abbrev pub onto : Bool → ℕ → ℕ
onto a p = p * 2 + cond a 1 0

abbrev pub top : ℕ → Bool
top p = p % 2 == 1

abbrev pub act : Description → Step → ℕ → ℕ
act x (Test f s n) p = onto (compares s (field f x) n) p
act x Negate p = onto (not (top p)) (p / 2)
act x Both p = onto (top (p / 2) && top p) (p / 2 / 2)
act x Either p = onto (top (p / 2) || top p) (p / 2 / 2)

abbrev pub acts : Description → List Step → ℕ → ℕ
acts x [] p = p
acts x (s ∷ c) p = acts x c (act x s p)
