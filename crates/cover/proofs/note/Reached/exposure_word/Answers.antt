use Rattle.std.proofs.Common.{rules}
use Rattle.cover.proofs.note.Reached.exposure_word.Goals as goal

pub returns : goal.returns
returns c = λ e h. let w = c.word.ensures.bits e h in search rules
