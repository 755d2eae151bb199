-- To believe: nothing. A device of the proofs: the machine that goes through a rule text mark by mark and writes down
-- steps.
--
-- It knows what it expects next (the mode), what waits for the factor that is being read (the level), what waits
-- outside each open bracket, the innermost first, and the steps so far. In `dead` no mark could be expected.

use Rattle.std.specs.Prelude.{ℕ, ◌+◌, ◌*◌, Bool, true, false, cond, not, List, [], ◌∷◌, ◌++◌, length, ◌==◌}
use Rattle.rule.specs.declared.text.Lead.{Lead}
use Rattle.rule.specs.declared.text.Lead.TheVariants.{Letter, Not, Open}
use Rattle.rule.specs.declared.text.Follow.{Follow}
use Rattle.rule.specs.declared.text.Follow.TheVariants.{And, Or, Close}
use Rattle.rule.specs.declared.text.Mark.{Mark}
use Rattle.rule.specs.declared.text.Mark.TheVariants.{Lead as Leads, Compare, Digit, Follow as Follows}
use Rattle.rule.specs.declared.steps.Step.{Step}
use Rattle.rule.specs.declared.steps.Step.TheVariants.{Test, Negate, Both, Either}
use Rattle.rule.specs.declared.text.Level.{Level}
use Rattle.rule.specs.declared.text.Mode.{Mode}
use Rattle.rule.specs.declared.text.Mode.TheVariants.{Want, Named, Signed, Counting, Done}
use Rattle.rule.specs.Marks.{mark_of}

pub data State : Type 0 where
  dead : State
  at : Mode → Level → List Level → List Step → State

abbrev pub fresh : Level
fresh = record { either = false; both = false; negated = false }

-- the level after a factor, after & and | and !
abbrev pub rested : Level → Level
rested l = record { either = l.either; both = false; negated = false }

abbrev pub anded : Level → Level
anded l = record { either = l.either; both = true; negated = false }

abbrev pub ored : Level
ored = record { either = true; both = false; negated = false }

abbrev pub flipped : Level → Level
flipped l = record { either = l.either; both = l.both; negated = not l.negated }

abbrev pub bit : Bool → ℕ
bit b = cond b 1 0

abbrev pub step_if : Bool → Step → List Step
step_if b s = cond b (s ∷ []) []

-- what waited for a factor is written after it, and what waited for a rule after the rule
abbrev pub finished : Level → List Step → List Step
finished l c = c ++ (step_if l.negated Negate ++ step_if l.both Both)

abbrev pub ended : Level → List Step → List Step
ended l c = c ++ step_if l.either Either

abbrev pub closed : Level → List Level → List Step → State
closed l ls c = at Done (rested l) ls (finished l c)

abbrev pub leads : Level → List Level → List Step → Lead → State
leads l ls c (Letter f) = at (Named f) l ls c
leads l ls c Not = at Want (flipped l) ls c
leads l ls c Open = at Want fresh (l ∷ ls) c

abbrev pub shut : List Level → List Step → State
shut [] c = dead
shut (l ∷ ls) c = closed l ls c

abbrev pub follows : Level → List Level → List Step → Follow → State
follows l ls c And = at Want (anded l) ls c
follows l ls c Or = at Want ored ls (ended l c)
follows l ls c Close = shut ls (ended l c)

abbrev pub next : State → Mark → State
next (at Want l ls c) (Leads h) = leads l ls c h
next (at (Named f) l ls c) (Compare s) = at (Signed f s) l ls c
next (at (Signed f s) l ls c) (Digit k) = cond (k == 0) (closed l ls (c ++ Test f s 0 ∷ [])) (at (Counting f s k) l ls c)
next (at (Counting f s v) l ls c) (Digit k) = at (Counting f s (10 * v + k)) l ls c
next (at (Counting f s v) l ls c) (Follows m) = follows (rested l) ls (finished l (c ++ Test f s v ∷ [])) m
next (at Done l ls c) (Follows m) = follows l ls c m
next _ _ = dead

abbrev pub start : State
start = at Want fresh [] []

abbrev pub scan : State → List ℕ → State
scan st [] = st
scan st (b ∷ t) = scan (next st (mark_of b)) t

-- a number is complete where the text ends, or goes on with no digit
abbrev pub settle : State → State
settle (at (Counting f s v) l ls c) = closed l ls (c ++ Test f s v ∷ [])
settle st = st

-- how many steps are written or wait to be
abbrev pub waits : Level → ℕ
waits l = bit l.either + bit l.both + bit l.negated

abbrev pub wait : List Level → ℕ
wait [] = 0
wait (l ∷ ls) = waits l + wait ls

abbrev pub in_test : Mode → ℕ
in_test Want = 0
in_test Done = 0
in_test _ = 1

abbrev pub weight : State → ℕ
weight dead = 0
weight (at w l ls c) = in_test w + waits l + wait ls + length c
