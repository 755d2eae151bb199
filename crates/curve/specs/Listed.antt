-- To believe: the points of a list.

use Rattle.std.specs.Prelude.{ℕ, List, slice_index_or}
use Rattle.curve.specs.Points.{Points}
use Rattle.curve.specs.declared.curve.point.Point.{Point}

-- the point at a place of a list, and past its end month 0 with haircut 0
abbrev pub point_at : List Point → ℕ → Point
point_at ps j = slice_index_or ps j (record { month = 0; haircut = 0 })

-- the first n points of a list
abbrev pub listed : ℕ → List Point → Points
listed n ps = record { count = n; month = λ j. (point_at ps j).month; haircut = λ j. (point_at ps j).haircut }
