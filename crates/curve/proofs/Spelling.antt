-- The points that a page spells.

use Rattle.std.proofs.Common.{ℕ, ◌+◌, ◌*◌, List}
use Rattle.curve.specs.Listed.{point_at}
use Rattle.curve.specs.Page.{Spelt}
use Rattle.curve.specs.declared.curve.point.Point.{Point}

-- a page of n points spells the point at a place of a list
pub record SpeltAt (bs : List ℕ) (n : ℕ) (ps : List Point) (k : ℕ) : Type 0 where
  pub month : Spelt bs (1 + 2 * k) (point_at ps k).month
  pub haircut : Spelt bs (1 + 2 * n + 2 * k) (point_at ps k).haircut
