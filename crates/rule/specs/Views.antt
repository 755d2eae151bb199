-- To believe: nothing. A device of the proofs: what the arrays of the code hold, as lists, and the reader as a state of
-- the machine.

use Rattle.std.specs.Prelude.{ℕ, ◌+◌, ◌≤◌, List, length, take, reverse}
use Rattle.grammar.specs.Grammar.{most_steps}
use Rattle.arrayvec.specs.ArrayVec.{ArrayVec}
use Rattle.rule.specs.declared.steps.Step.{Step}
use Rattle.rule.specs.declared.text.Level.{Level}
use Rattle.rule.specs.declared.held.Rule.{Rule}
use Rattle.rule.specs.declared.text.reader.Reader.{Reader}
use Rattle.rule.specs.Machine.{State}
use Rattle.rule.specs.Machine.State.{at}

abbrev pub code : Rule → List Step
code r = take r.len r.steps

-- the rule has room for n steps more
abbrev pub HasRoom : Rule → ℕ → Type 0
HasRoom r n = length (code r) + n ≤ most_steps

-- the last level first
abbrev pub waiting : ArrayVec Level → List Level
waiting v = reverse v.items

abbrev pub state : Reader → State
state r = at r.mode r.level (waiting r.outer) (code r.rule)
