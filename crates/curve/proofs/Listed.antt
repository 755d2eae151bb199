-- The points of a curve as a list of their own.

use Rattle.std.proofs.Common.{◌≡◌, ℕ, ◌<◌, ◌≤◌, List, length, get_or, take, ◌∙◌, arith, get_or-take, ap}
use Rattle.std.proofs.lemmas.List.{get_or_default, length-take-le}
use Rattle.curve.specs.Listed.{point_at}
use Rattle.curve.specs.declared.curve.point.Point.{Point}

pub taken_size : (xs ps : List Point) (n : ℕ) → xs ≡ take n ps → n ≤ length ps → length xs ≡ n
taken_size xs ps n e room = ap length e ∙ length-take-le n ps room

pub taken_at : (xs ps : List Point) (n j : ℕ) (d : Point) → xs ≡ take n ps → n ≤ length ps → j < n → get_or xs j d ≡ point_at ps j
taken_at xs ps n j d e room l = ap (λ ys. get_or ys j d) e ∙ (get_or-take n ps j d l ∙ get_or_default ps j d _ (omega arith))
