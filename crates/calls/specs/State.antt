-- To believe: what a book holds, apart from how it is stored.

use Rattle.std.specs.Prelude.{ℕ, ◌+◌, ◌*◌, Bool, false, List, replicate, is_some, None, Option, slice_index, slice_index_or}
use Rattle.table.specs.Table.{Table}
use Rattle.curve.specs.declared.lot.Lot.{Lot}
use Rattle.calls.specs.declared.Exposure.{Exposure}

-- 64 lot places and 16 exposure places, two pledge tables of 1,024 places each, the book's number, the number of its latest run,
-- and whether that run is open
pub record State : Type 0 where
  pub lots : List (Option Lot)
  pub exposures : List (Option Exposure)
  pub standing : List ℕ
  pub working : List ℕ
  pub number : ℕ
  pub run : ℕ
  pub in_run : Bool

-- a new book
abbrev pub opening : ℕ → State
opening n = record { lots = replicate 64 None; exposures = replicate 16 None; standing = replicate 1024 0; working = replicate 1024 0; number = n; run = 0; in_run = false }

-- what stands at a lot place, at an exposure place, and at the place of both in a table
abbrev pub lot_at : List (Option Lot) → ℕ → Option Lot
lot_at lots l = slice_index_or lots l None

abbrev pub exposure_at : List (Option Exposure) → ℕ → Option Exposure
exposure_at exposures e = slice_index_or exposures e None

abbrev pub table : List ℕ → Table
table t l e = slice_index t (l * 16 + e)

abbrev pub held_at : List (Option Lot) → ℕ → Bool
held_at lots l = is_some (lot_at lots l)

abbrev pub open_at : List (Option Exposure) → ℕ → Bool
open_at exposures e = is_some (exposure_at exposures e)
