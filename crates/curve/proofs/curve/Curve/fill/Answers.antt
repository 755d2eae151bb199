use Rattle.std.proofs.Common.{◌≡◌, ◌≤◌, ◌<◌, length, arith}
use Rattle.curve.specs.Held.{held}
use Rattle.curve.proofs.Listed.{taken_size, taken_at}
use Rattle.curve.proofs.Writing.{begun_more, written}
use Rattle.curve.proofs.curve.Curve.fill.Goals as goal

pub loop-j-preserved : goal.loop-j-preserved
loop-j-preserved c =
    let h = c.args.self.now in
    let room : h.count ≤ length h.points = omega (arith) in
    let size = taken_size _ h.points h.count c.points-points.ensures room in
    let l : c.loop-j.j < h.count = omega (arith, size, c.loop-j-test.true) in
    let e = taken_at _ h.points h.count c.loop-j.j (record { month = 0; haircut = 0 }) c.points-points.ensures room l in
    begun_more (held h) c.args.buffer.now c.loop-j.buffer c.put.new.buffer c.put-in-loop-j.new.buffer c.loop-j.j l c.loop-j.invariant
    (rw e at c.put.ensures.spelt) c.put.ensures.kept (rw e at c.put-in-loop-j.ensures.spelt) c.put-in-loop-j.ensures.kept

pub returns : goal.returns
returns c =
    let h = c.args.self.now in
    let size = taken_size _ h.points h.count c.points-points.ensures (omega (arith)) in
    let all : c.loop-j.j ≡ h.count = omega (arith, size, c.loop-j-test.false, c.loop-j.auto.j-end) in
    written (held h) c.args.buffer.now c.loop-j.buffer h.some.0 h.some.1 (omega arith) (rw all at c.loop-j.invariant)
