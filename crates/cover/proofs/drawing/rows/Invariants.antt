use Rattle.cover.specs.Drawing.{Rows}
use Rattle.cover.proofs.drawing.rows.Given as goal

abbrev pub invariant-loop-l : goal.invariant-loop-l
invariant-loop-l l = Rows l.slots l.members l.counts l.l
