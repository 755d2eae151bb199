-- To believe: how the arrays of a problem are read as a situation, and an array of 1,024 numbers as a pledge table.

use Rattle.std.specs.Prelude.{ℕ, ◌+◌, ◌*◌, ◌^◌, ◌<◌, Bool, false, ◌&&◌, List, Option, Some, None, ◌==◌, is_some, slice_index, slice_index_or}
use Rattle.table.specs.Table.{Situation, Table}
use Rattle.table.specs.Drawn.{least}
use Rattle.cover.specs.declared.problem.Lot.{Lot}
use Rattle.cover.specs.declared.problem.Terms.{Terms}

-- what stands at a place
abbrev pub at : List ℕ → ℕ → ℕ
at xs k = slice_index xs k

abbrev pub flag : List Bool → ℕ → Bool
flag xs k = slice_index_or xs k false

-- the lot at a lot place, the amount at an exposure place, and the terms of a pair; where there are none, they hold nothing
abbrev pub lot_at : List (Option Lot) → ℕ → Option Lot
lot_at lots l = slice_index_or lots l None

abbrev pub exposure_at : List (Option ℕ) → ℕ → Option ℕ
exposure_at exposures e = slice_index_or exposures e None

abbrev pub terms_at : List Bool → List ℕ → ℕ → Terms
terms_at admitted limits k = record { admitted = flag admitted k; limit = at limits k }

abbrev pub issuer_of : Option Lot → ℕ
issuer_of None = 0
issuer_of (Some l) = l.issuer

abbrev pub worth_of : Option Lot → ℕ
worth_of None = 0
worth_of (Some l) = l.worth

abbrev pub amount_of : Option ℕ → ℕ
amount_of None = 0
amount_of (Some x) = x

-- lot l and exposure e have the place l * 16 + e, in a table and wherever there is an entry for each pair
abbrev pub pledge : List ℕ → Table
pledge xs l e = at xs (l * 16 + e)

-- The limit of an issuer at an exposure stands at the issuer's smallest held lot place.
abbrev pub situation : List (Option Lot) → List (Option ℕ) → List Bool → List ℕ → Situation
situation lots exposures admitted limits = record {
  held = λ l. is_some (lot_at lots l);
  issuer = λ l. issuer_of (lot_at lots l);
  worth = λ l. worth_of (lot_at lots l);
  opened = λ e. is_some (exposure_at exposures e);
  amount = λ e. amount_of (exposure_at exposures e);
  admits = λ l e. flag admitted (l * 16 + e);
  limit = λ e i. at limits (least (λ l. is_some (lot_at lots l) && issuer_of (lot_at lots l) == i) 63 * 16 + e);
}

-- every value, amount and limit is so small that sums of them never pass 64 bits
pub record Small (lots : List (Option Lot)) (exposures : List (Option ℕ)) (bounds : List ℕ) : Type 0 where
  pub worths : (l : ℕ) → worth_of (lot_at lots l) < 2 ^ 40
  pub amounts : (e : ℕ) → amount_of (exposure_at exposures e) < 2 ^ 40
  pub limits : (k : ℕ) → at bounds k < 2 ^ 40
