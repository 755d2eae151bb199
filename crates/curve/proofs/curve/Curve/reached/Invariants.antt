use Rattle.std.proofs.Common.{◌-◌, ◌≤◌}
use Rattle.curve.specs.Held.{held}
use Rattle.curve.proofs.curve.Curve.reached.Given as goal

abbrev pub invariant-loop-n : goal.invariant-loop-n
invariant-loop-n l = (1 ≤ l.n) × (l.n ≤ l.self.count) × ((held l.self).month (l.n - 1) ≤ l.month)

abbrev pub decreases-loop-n : goal.decreases-loop-n
decreases-loop-n l = l.self.count - l.n
