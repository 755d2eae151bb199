use Rattle.std.proofs.Common.{◌∷◌}
use Rattle.script.specs.Words.Worded.{none, more}
use Rattle.script.proofs.words.Words.line.Goals as goal

pub returns : goal.returns
returns c =
    let l = c.in_ok-line.ensures in
    (c.in-Some.first.now ∷ l.words, more {rest = c.next.new.self.rest.now} c.in-Some.ensures.steps l.worded, l.says)

pub returns-in_default : goal.returns-in_default
returns-in_default c = none c.in_default.ensures.steps.0
