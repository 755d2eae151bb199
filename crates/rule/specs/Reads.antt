-- To believe: nothing. A device of the proofs: what the reader does with one mark, and at the end of the text.

use Rattle.std.specs.Prelude.{◌≡◌, ℕ, ◌+◌, Bool, true, false, List, length, Ok, Err, Result}
use Rattle.cause.specs.Numbers.{number as listed}
use Rattle.grammar.specs.Grammar.{Least}
use Rattle.rule.specs.declared.fault.TextFault.{TextFault}
use Rattle.rule.specs.declared.held.Rule.{Rule}
use Rattle.rule.specs.declared.text.Mark.{Mark}
use Rattle.rule.specs.declared.text.Level.{Level}
use Rattle.rule.specs.declared.text.Mode.{Mode}
use Rattle.rule.specs.declared.text.reader.Reader.{Reader}
use Rattle.rule.specs.declared.steps.Step.{Step}
use Rattle.rule.specs.declared.text.Mode.TheVariants.{Counting, Done}
use Rattle.rule.specs.Marks.{steps}
use Rattle.rule.specs.Machine.{State, bit, ended, next, settle}
use Rattle.rule.specs.Machine.State.{at}
use Rattle.rule.specs.Refusing.{verdict, first_digit}
use Rattle.rule.specs.Says.{Accepted, says}
use Rattle.rule.specs.Views.{state, waiting}

-- the reader comes to stand at the state st
pub record Becomes (before after : Reader) (st : State) : Type 0 where
  pub stands : state after ≡ st
  pub count : after.count ≡ before.count
  pub digit : after.digit ≡ before.digit

abbrev pub judgement : Reader → Mark → ℕ → Result (Unit {0}) TextFault
judgement r m i = verdict r.mode m (length (waiting r.outer)) r.count i r.digit

pub record Advanced (before after : Reader) (m : Mark) (i : ℕ) : Type 0 where
  pub allowed : judgement before m i ≡ Ok tt
  pub moved : state after ≡ next (state before) m
  pub counted : after.count ≡ before.count + bit (steps m)
  pub number : after.digit ≡ first_digit m i before.digit

abbrev pub Taken : Reader → Reader → Mark → ℕ → Result (Unit {0}) TextFault → Type 0
Taken before after m i (Ok u) = Advanced before after m i
Taken before after m i (Err e) = judgement before m i ≡ Err e

-- the modes in which a text may end
abbrev pub ends : Mode → Bool
ends (Counting f s v) = true
ends Done = true
ends _ = false

-- the steps d are what is written if the text ends there
pub record Concluded (st : State) (ls : List Level) (d : List Step) : Type 0 where
  pub waiting : Level
  pub said : List Step
  pub is : settle st ≡ at Done waiting ls said
  pub steps : ended waiting said ≡ d

-- what reading a text gives
abbrev pub Read : List ℕ → Result Rule TextFault → Type 0
Read t (Ok r) = Accepted t (says r)
Read t (Err e) = Least t (listed e.cause) e.place
