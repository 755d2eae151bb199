-- To believe: nothing new. What follows from the definitions of curves, pages and values.

use Rattle.std.specs.Prelude.{◌≡◌, ℕ, ◌+◌, ◌<◌, ◌≤◌, ◌⊎◌, List, take, slice_index}
use Rattle.cause.specs.declared.Cause.{Cause}
use Rattle.curve.specs.Points.{Points, points, Lawful, Haircut, Past}
use Rattle.curve.specs.Listed.{point_at, listed}
use Rattle.curve.specs.Page.{Page, Accepted, Refused, Written}
use Rattle.curve.specs.Lot.{collateral}
use Rattle.curve.specs.declared.curve.point.Point.{Point}

-- where one list has the month of a point, and another its haircut, the curve of the two lists has both as the curve of the points has them
abbrev pub SameColumns : Type 0
SameColumns = (n : ℕ) (ps : List Point) (ms hs : List ℕ)
    → ((points n ms hs).count ≡ (listed n ps).count)
    × ((j : ℕ) → slice_index ms j ≡ (point_at ps j).month → slice_index hs j ≡ (point_at ps j).haircut
    → ((points n ms hs).month j ≡ (listed n ps).month j) × ((points n ms hs).haircut j ≡ (listed n ps).haircut j))

-- a page that is written from the curve that it gave has the same bytes
abbrev pub SameBytes : Type 0
SameBytes = (bs : List ℕ) (c : Points) → Accepted bs c → (old new : List ℕ) (n : ℕ) → Written c old new n → take n new ≡ bs

-- a page is accepted or refused, never both, and refused for one cause at one point
abbrev pub OneVerdict : Type 0
OneVerdict = ((bs : List ℕ) (c : Points) (k : Cause) (j : ℕ) → Accepted bs c → Refused bs k j → ⊥)
    × ((bs : List ℕ) (k k' : Cause) (j j' : ℕ) → Refused bs k j → Refused bs k' j' → (k ≡ k') × (j ≡ j'))

-- two curves of one page have the same points
abbrev pub OneCurve : Type 0
OneCurve = (bs : List ℕ) (c d : Points) → Page bs c → Page bs d
    → (c.count ≡ d.count) × ((j : ℕ) → j < c.count → (c.month j ≡ d.month j) × (c.haircut j ≡ d.haircut j))

-- haircuts never fall as months rise
abbrev pub HaircutsRise : Type 0
HaircutsRise = (c : Points) → Lawful c → (m m' h h' : ℕ) → m ≤ m' → Haircut c m h → Haircut c m' h' → h ≤ h'

-- a month has one haircut, between those of the points around it
abbrev pub OneHaircut : Type 0
OneHaircut = (c : Points) → Lawful c → (m h h' : ℕ) → Haircut c m h → Haircut c m h' → h ≡ h'

abbrev pub BetweenNeighbours : Type 0
BetweenNeighbours = (c : Points) → Lawful c → (m h j : ℕ) → j + 1 < c.count → c.month j ≤ m → m ≤ c.month (j + 1) → Haircut c m h
    → (c.haircut j ≤ h) × (h ≤ c.haircut (j + 1))

-- every month has a haircut or comes after the last point, and then it has none
abbrev pub UpToTheEnd : Type 0
UpToTheEnd = (c : Points) → Lawful c → (m : ℕ) → (((h : ℕ) × Haircut c m h) ⊎ Past c m) × ((h : ℕ) → Past c m → Haircut c m h → ⊥)

-- a collateral value never passes the market value, and never rises with the month
abbrev pub ValuesFall : Type 0
ValuesFall = ((market h : ℕ) → collateral market h ≤ market)
    × ((c : Points) → Lawful c → (market m m' h h' : ℕ) → m ≤ m' → Haircut c m h → Haircut c m' h' → collateral market h' ≤ collateral market h)
