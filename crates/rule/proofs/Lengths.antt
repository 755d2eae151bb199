-- How many steps are written for what waited.

use Rattle.std.proofs.Common.{◌≡◌, ◌+◌, Bool, true, false, List, ◌++◌, length, refl, arith, length-append}
use Rattle.rule.specs.declared.steps.Step.{Step}
use Rattle.rule.specs.declared.text.Level.{Level}
use Rattle.rule.specs.declared.steps.Step.TheVariants.{Negate, Both, Either}
use Rattle.rule.specs.Machine.{bit, step_if, finished, ended}

pub step_if_length : (b : Bool) (s : Step) → length (step_if b s) ≡ bit b
step_if_length true s = refl
step_if_length false s = refl

pub finished_length : (l : Level) (c : List Step) → length (finished l c) ≡ length c + (bit l.negated + bit l.both)
finished_length l c = omega (
  arith,
  length-append c (step_if l.negated Negate ++ step_if l.both Both),
  length-append (step_if l.negated Negate) (step_if l.both Both),
  step_if_length l.negated Negate,
  step_if_length l.both Both,
)

pub ended_length : (l : Level) (c : List Step) → length (ended l c) ≡ length c + bit l.either
ended_length l c = omega (arith, length-append c (step_if l.either Either), step_if_length l.either Either)
