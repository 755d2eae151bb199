use Rattle.std.proofs.Common.{rules}
use Rattle.cover.proofs.note.Reached.lot_word.Goals as goal

pub returns : goal.returns
returns c = λ l h. let w = c.word.ensures.bits l h in search rules
