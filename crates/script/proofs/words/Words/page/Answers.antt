use Rattle.std.proofs.Common.{◌∷◌}
use Rattle.script.specs.Words.Worded.{more}
use Rattle.script.specs.Says.Says.{page}
use Rattle.script.proofs.words.Words.page.Goals as goal

pub returns : goal.returns
returns c =
    let class = c.in_ok-class.ensures in
    let bytes = c.in_ok-bytes.ensures in
    record { words = class.0 ∷ bytes.0; worded = more class.1 bytes.1; says = page class.2 bytes.2 }
