use Rattle.std.proofs.Common.{vec_items}
use Rattle.script.proofs.Lines.{Sofar}
use Rattle.script.proofs.words.Words.page_bytes.Given as goal

abbrev pub invariant-loop-word : goal.invariant-loop-word
invariant-loop-word l = Sofar l.fn.self.rest.now (vec_items l.bytes) l.word-iterator.rest.now
