use Rattle.curve.specs.Held.{held}
use Rattle.curve.proofs.Writing.{Begun}
use Rattle.curve.proofs.curve.Curve.fill.Given as goal

abbrev pub invariant-loop-j : goal.invariant-loop-j
invariant-loop-j l = Begun (held l.self) l.fn.buffer l.buffer l.j
