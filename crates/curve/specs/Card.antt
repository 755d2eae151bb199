-- To believe: the curve of each class, and why loading a class is refused.

use Rattle.std.specs.Prelude.{◌≡◌, ℕ, zero, suc, ◌<◌, ◌≤◌, List, [], ◌∷◌, ◌≢◌}
use Rattle.cause.specs.declared.Cause.{Cause}
use Rattle.cause.specs.declared.Cause.TheVariants.{FieldOutside}
use Rattle.curve.specs.Points.{Points, blank}
use Rattle.curve.specs.Page.{Accepted, Refused}
use Rattle.curve.specs.Held.{held}
use Rattle.curve.specs.declared.curve.Curve.{Curve}
use Rattle.curve.specs.declared.card.CardFault.{CardFault}
use Rattle.curve.specs.declared.card.CardFault.TheVariants.{Page, Class}

-- the points of the curve at a place of a list, blank past its end
abbrev pub nth_points : List Curve → ℕ → Points
nth_points [] k = blank
nth_points (c ∷ cs) zero = held c
nth_points (c ∷ cs) (suc k) = nth_points cs k

-- the cause of a fault: that of the page, or a class outside its range
abbrev pub cause_of_load : CardFault → Cause
cause_of_load (Page f k) = f.cause
cause_of_load (Class k) = FieldOutside

-- a class is refused: for its page, with the class added, or for the class alone where the page has no fault
pub data Unloaded (bs : List ℕ) (class : ℕ) : CardFault → Type 0 where
  page : {k : Cause} {j : ℕ} → Refused bs k j → Unloaded bs class (Page (record { cause = k; point = j }) class)
  outside : (c : Points) → Accepted bs c → 7 < class → Unloaded bs class (Class class)

-- the curve of one class is another, those of the others are as they were
pub record Replaced (old new : ℕ → Points) (class : ℕ) (c : Points) : Type 0 where
  pub here : new class ≡ c
  pub others : (k : ℕ) → (k ≢ class) → new k ≡ old k

-- a class is loaded from its page, which has n points
pub record Loaded (bs : List ℕ) (class : ℕ) (old new : ℕ → Points) (n : ℕ) : Type 0 where
  pub curve : Points
  pub page : Accepted bs curve
  pub range : class ≤ 7
  pub replaced : Replaced old new class curve
  pub count : n ≡ curve.count
