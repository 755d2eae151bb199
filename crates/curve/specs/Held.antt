-- To believe: the points that a curve holds.

use Rattle.curve.specs.Points.{Points}
use Rattle.curve.specs.Listed.{listed}
use Rattle.curve.specs.declared.curve.Curve.{Curve}

abbrev pub held : Curve → Points
held c = listed c.count c.points
