-- To believe: nothing that a call promises. What every book keeps, whatever its binder: a pledge lies on a held lot and an open exposure, and numbers are small enough for
-- every sum. These are invariants of the type; no promise rests on reading them.

use Rattle.std.specs.Prelude.{◌≡◌, ℕ, ◌/◌, ◌%◌, ◌^◌, ◌<◌, true, List, Option, slice_index}
use Rattle.curve.specs.declared.lot.Lot.{Lot}
use Rattle.calls.specs.declared.Exposure.{Exposure}
use Rattle.calls.specs.State.{held_at, open_at, lot_at, exposure_at}
use Rattle.calls.specs.Situation.{worth_of, amount_of}

abbrev pub Grounded : List (Option Lot) → List (Option Exposure) → List ℕ → Type 0
Grounded lots exposures t = (p : ℕ) → (p < 1024) × (0 < slice_index t p) → (held_at lots (p / 16) ≡ true) × (open_at exposures (p % 16) ≡ true)

abbrev pub Low : List ℕ → Type 0
Low t = (p : ℕ) → slice_index t p < 2 ^ 40

abbrev pub Worths : List (Option Lot) → Type 0
Worths lots = (l : ℕ) → worth_of (lot_at lots l) < 2 ^ 40

abbrev pub Amounts : List (Option Exposure) → Type 0
Amounts exposures = (e : ℕ) → amount_of (exposure_at exposures e) < 2 ^ 40
