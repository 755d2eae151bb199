use Rattle.std.proofs.Common.{◌∷◌}
use Rattle.script.specs.Words.Worded.{more}
use Rattle.script.specs.Says.Says.{add}
use Rattle.script.proofs.Lines.{described}
use Rattle.script.proofs.words.Words.add.Goals as goal

pub returns : goal.returns
returns c =
    let place = c.in_ok-place.ensures in
    let lot = described {rest = c.terms.new.self.rest.now} c.in_ok-terms.ensures c.in_ok-end.ensures in
    record { words = place.0 ∷ lot.0; worded = more place.1 lot.1; says = add place.2 lot.2 }
