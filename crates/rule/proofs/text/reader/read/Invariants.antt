use Rattle.rule.specs.Views.{waiting, code}
use Rattle.rule.proofs.Reading.{Reading}
use Rattle.rule.proofs.text.reader.read.Given as goal

abbrev pub invariant-loop-place : goal.invariant-loop-place
invariant-loop-place l = Reading l.text l.reader.mode l.reader.level (waiting l.reader.outer) (code l.reader.rule) l.reader.count l.reader.digit l.place
