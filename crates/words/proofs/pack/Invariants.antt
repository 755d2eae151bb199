use Rattle.std.proofs.Common.{◌≡◌, ◌-◌, ◌≤◌, min, length}
use Rattle.words.proofs.Word.{word}
use Rattle.words.proofs.pack.Given as goal

abbrev pub invariant-loop-set : goal.invariant-loop-set
invariant-loop-set l = (length l.yielded ≤ min (length l.fn.flags) 64) × (l.word ≡ word l.fn.flags (min (length l.fn.flags) 64 - length l.yielded) (length l.yielded))
