-- To believe: the ranges of a lot's fields, and its collateral value.

use Rattle.std.specs.Prelude.{◌≡◌, ℕ, ◌-◌, ◌*◌, ◌/◌, ◌≤◌}
use Rattle.cause.specs.declared.Cause.{Cause}
use Rattle.cause.specs.declared.Cause.TheVariants.{FieldOutside, PastCurve}
use Rattle.curve.specs.Points.{Points, Haircut, Past}
use Rattle.curve.specs.declared.lot.Terms.{Terms}
use Rattle.curve.specs.declared.lot.Lot.{Lot}

pub record InRange (t : Terms) : Type 0 where
  pub issuer : t.issuer ≤ 255
  pub class : t.class ≤ 7
  pub rated : 1 ≤ t.rating
  pub rating : t.rating ≤ 22
  pub months : t.months ≤ 1200
  pub positive : 1 ≤ t.market
  pub market : t.market ≤ 100000000000

-- the collateral value of a market value under a haircut, rounded down
abbrev pub collateral : ℕ → ℕ → ℕ
collateral market h = market * (10000 - h) / 10000

-- the lot that is made of terms under a haircut
abbrev pub lot_of : Terms → ℕ → Lot
lot_of t h = record { issuer = t.issuer; class = t.class; rating = t.rating; months = t.months; market = t.market; worth = collateral t.market h }

-- a lot is priced, with the curve of each class
pub record Priced (curve : ℕ → Points) (t : Terms) (l : Lot) : Type 0 where
  pub ranges : InRange t
  pub haircut : ℕ
  pub at : Haircut (curve t.class) t.months haircut
  pub lot : l ≡ lot_of t haircut

-- or it is refused: for a field outside its range, and else for months after the curve's last point
pub data Unpriced (curve : ℕ → Points) (t : Terms) : Cause → Type 0 where
  outside : (InRange t → ⊥) → Unpriced curve t FieldOutside
  past : InRange t → Past (curve t.class) t.months → Unpriced curve t PastCurve
