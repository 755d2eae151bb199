-- Bytes that are the page of some points, or of none.

use Rattle.std.proofs.Common.{◌≡◌, ℕ, ◌+◌, ◌*◌, ◌<◌, ◌≤◌, List, length, get_or, sym}
use Rattle.cause.specs.declared.Cause.{Cause}
use Rattle.curve.specs.Points.{Points, NoneBelow, month_breaks, haircut_breaks}
use Rattle.cause.specs.declared.Cause.TheVariants.{PageShape, PageMonth, PageHaircut}
use Rattle.curve.specs.Listed.{point_at, listed}
use Rattle.curve.specs.Page.{Spelt, Page, First, Refused}
use Rattle.curve.specs.declared.curve.point.Point.{Point}
use Rattle.curve.specs.Page.Refused.{shape, months, haircuts}

-- it is enough that the first byte and the length do not fit each other
pub misshapen : (bs : List ℕ) → ((n : ℕ) → 1 ≤ n → n ≤ 16 → get_or bs 0 0 ≡ n → length bs ≡ 1 + 4 * n → ⊥) → Refused bs PageShape 0
misshapen bs h = shape (λ c p. h c.count p.some p.few p.number p.size)

-- a number of points, the length that goes with it, and the points one by one
pub page_of : (bs : List ℕ) (n : ℕ) (ps : List Point) → n ≡ get_or bs 0 0 → 1 ≤ n → n ≤ 16 → length bs ≡ 1 + 4 * n
    → ((j : ℕ) → j < n → Spelt bs (1 + 2 * j) (point_at ps j).month × Spelt bs (1 + 2 * n + 2 * j) (point_at ps j).haircut) → Page bs (listed n ps)
page_of bs n ps number some few size spelt = record {
  some = some;
  few = few;
  size = size;
  number = sym number;
  months = λ j l. (spelt j l).0;
  haircuts = λ j l. (spelt j l).1;
}

-- the first month or haircut at fault
pub at_month : (bs : List ℕ) (c : Points) (k : Cause) (j : ℕ) → Page bs c → k ≡ PageMonth → First c.count (month_breaks c.month) j → Refused bs k j
at_month bs c k j p e f = rw e (months c p j f)

pub at_haircut : (bs : List ℕ) (c : Points) (k : Cause) (j : ℕ) → Page bs c → NoneBelow c.count (month_breaks c.month) → k ≡ PageHaircut → First c.count (haircut_breaks c.haircut) j → Refused bs k j
at_haircut bs c k j p n e f = rw e (haircuts c p n j f)
