use Rattle.std.proofs.Common.{arith}
use Rattle.cover.specs.Rows.{count_low, rows_more, rows_start}
use Rattle.cover.proofs.drawing.rows.Goals as goal

pub loop-l-init : goal.loop-l-init
loop-l-init c = rows_start c.args.slots.now c.args.members.now c.args.counts.now c.requires.1

pub overflow_add-members : goal.overflow_add-members
overflow_add-members c = omega (arith, c.requires.0 c.loop-l.l (omega arith), count_low c.args.slots.now c.loop-l.counts c.loop-l.l c.loop-l.invariant.counted (omega arith) (c.requires.0 c.loop-l.l (omega arith)))

pub bounds-members-t : goal.bounds-members-t
bounds-members-t c = omega (arith, c.requires.0 c.loop-l.l (omega arith), count_low c.args.slots.now c.loop-l.counts c.loop-l.l c.loop-l.invariant.counted (omega arith) (c.requires.0 c.loop-l.l (omega arith)))

pub overflow_add-counts : goal.overflow_add-counts
overflow_add-counts c = omega (arith, count_low c.args.slots.now c.loop-l.counts c.loop-l.l c.loop-l.invariant.counted (omega arith) (c.requires.0 c.loop-l.l (omega arith)))

pub loop-l-preserved : goal.loop-l-preserved
loop-l-preserved c = rows_more c.args.slots.now c.loop-l.members c.loop-l.counts c.loop-l.l (omega arith) (omega arith) (omega arith) (c.requires.0 c.loop-l.l (omega arith)) c.loop-l.invariant
