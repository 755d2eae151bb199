-- To believe: when a lot is added, and why it is refused.

use Rattle.std.specs.Prelude.{◌≡◌, ℕ, ◌<◌, ◌≤◌, Bool, true, false, List, slice_index_or, slice_set}
use Rattle.cause.specs.declared.Cause.{Cause}
use Rattle.cause.specs.declared.Cause.TheVariants.{PlaceOutside, PlaceTaken}
use Rattle.curve.specs.Points.{Points}
use Rattle.curve.specs.Lot.{Priced, Unpriced}
use Rattle.curve.specs.declared.lot.Terms.{Terms}
use Rattle.curve.specs.declared.lot.Lot.{Lot}

-- the place was free, the lot is priced under the curves, and the place is taken
pub record Added (before after : List Bool) (curves : ℕ → Points) (place : ℕ) (t : Terms) (l : Lot) : Type 0 where
  pub range : place ≤ 63
  pub free : slice_index_or before place false ≡ false
  pub priced : Priced curves t l
  pub taken : after ≡ slice_set before place true

-- of several causes, the one with the smallest number
pub data Unadded (places : List Bool) (curves : ℕ → Points) (place : ℕ) (t : Terms) : Cause → Type 0 where
  outside : 63 < place → Unadded places curves place t PlaceOutside
  taken : place ≤ 63 → slice_index_or places place false ≡ true → Unadded places curves place t PlaceTaken
  unpriced : {k : Cause} → place ≤ 63 → slice_index_or places place false ≡ false → Unpriced curves t k → Unadded places curves place t k
