use Rattle.std.proofs.Common.{rules}
use Rattle.cover.proofs.note.Reached.issuer_word.Goals as goal

pub returns : goal.returns
returns c = λ t h. let w = c.word.ensures.bits t h in search rules
