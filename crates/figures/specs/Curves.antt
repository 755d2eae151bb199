-- To believe: nothing. Figures of one curve page: its points, haircuts, and lots of market value 1,000,000.

use Rattle.std.specs.Prelude.{◌≡◌, ℕ, List, [], ◌∷◌}
use Rattle.cause.specs.Numbers.{number}
use Rattle.cause.specs.declared.Cause.{Cause}
use Rattle.curve.specs.Points.{Points, points, Haircut, Past}
use Rattle.curve.specs.Listed.{listed}
use Rattle.curve.specs.Page.{Accepted}
use Rattle.curve.specs.Lot.{InRange, Priced, Unpriced}
use Rattle.curve.specs.declared.lot.Terms.{Terms}
use Rattle.curve.specs.declared.lot.Lot.{Lot}

abbrev pub page : List ℕ
page = 0x03 ∷ 0x00 ∷ 0x00 ∷ 0x3C ∷ 0x00 ∷ 0x68 ∷ 0x01 ∷ 0x64 ∷ 0x00 ∷ 0x90 ∷ 0x01 ∷ 0xD0 ∷ 0x07 ∷ []

abbrev pub curve : Points
curve = listed 3 (record { month = 0; haircut = 100 } ∷ record { month = 60; haircut = 400 } ∷ record { month = 360; haircut = 2000 } ∷ [])

-- the same points, their months in one list and their haircuts in another
abbrev pub columns : Points
columns = points 3 (0 ∷ 60 ∷ 360 ∷ []) (100 ∷ 400 ∷ 2000 ∷ [])

-- a lot of market value 1,000,000 at a month, in a class that has this curve
pub record Offered (curves : ℕ → Points) (m : ℕ) (t : Terms) : Type 0 where
  pub ranges : InRange t
  pub class : curves t.class ≡ curve
  pub months : t.months ≡ m
  pub market : t.market ≡ 1000000

-- such a lot is priced, always at this value, and never refused
abbrev pub Worth : ℕ → ℕ → Type 0
Worth m value = (curves : ℕ → Points) (t : Terms) → Offered curves m t
    → ((l : Lot) × Priced curves t l)
    × ((l : Lot) → Priced curves t l → l.worth ≡ value)
    × ((k : Cause) → Unpriced curves t k → ⊥)

-- such a lot is never priced, and refused by this number alone
abbrev pub RefusedBy : ℕ → ℕ → Type 0
RefusedBy m n = (curves : ℕ → Points) (t : Terms) → Offered curves m t
    → ((k : Cause) × Unpriced curves t k)
    × ((k : Cause) → Unpriced curves t k → number k ≡ n)
    × ((l : Lot) → Priced curves t l → ⊥)

-- the curve has this haircut at a month, and no other
abbrev pub Only : ℕ → ℕ → Type 0
Only m h = Haircut curve m h × ((h' : ℕ) → Haircut curve m h' → h' ≡ h)

pub record CurveFigures : Type 0 where
  pub accepted : Accepted page curve
  pub columns : (columns.count ≡ curve.count) × ((j : ℕ) → (columns.month j ≡ curve.month j) × (columns.haircut j ≡ curve.haircut j))
  pub month_30 : Only 30 250
  pub value_30 : Worth 30 975000
  pub month_61 : Only 61 406
  pub value_61 : Worth 61 959400
  pub month_361 : Past curve 361 × ((h : ℕ) → Haircut curve 361 h → ⊥)
  pub value_361 : RefusedBy 361 18
