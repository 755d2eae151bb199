-- To believe: what a reading of a book answers.

use Rattle.std.specs.Prelude.{ℕ, cond, ◌||◌, List, Some, None, Ok, Err, Option, Result, nat_lt}
use Rattle.cause.specs.declared.Cause.{Cause}
use Rattle.cause.specs.declared.Cause.TheVariants.{PlaceOutside, PlaceEmpty}
use Rattle.curve.specs.declared.lot.Lot.{Lot}
use Rattle.calls.specs.declared.Exposure.{Exposure}
use Rattle.calls.specs.State.{State, lot_at, exposure_at, table}
use Rattle.book.specs.declared.book.readings.Kind.{Kind}
use Rattle.book.specs.declared.book.readings.Kind.TheVariants.{Standing, Working}

-- what stands at a place, or that it is empty
abbrev pub found : {A : Type 0} → Option A → Result A Cause
found None = Err PlaceEmpty
found (Some x) = Ok x

abbrev pub lot_read : State → ℕ → Result Lot Cause
lot_read s p = cond (nat_lt 63 p) (Err PlaceOutside) (found (lot_at s.lots p))

abbrev pub exposure_read : State → ℕ → Result Exposure Cause
exposure_read s p = cond (nat_lt 15 p) (Err PlaceOutside) (found (exposure_at s.exposures p))

-- one of the two tables
abbrev pub pledges : State → Kind → List ℕ
pledges s Standing = s.standing
pledges s Working = s.working

abbrev pub pledge_read : State → Kind → ℕ → ℕ → Result ℕ Cause
pledge_read s k l e = cond (nat_lt 63 l || nat_lt 15 e) (Err PlaceOutside) (Ok (table (pledges s k) l e))

-- the number of the open run
abbrev pub run_open : State → Option ℕ
run_open s = cond s.in_run (Some s.run) None
