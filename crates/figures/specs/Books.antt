-- To believe: nothing. Figures of one book: three lots and one or two exposures, while a run is open.

use Rattle.std.specs.Prelude.{◌≡◌, ℕ, true, cond, ◌&&◌, ◌||◌, List, ◌∷◌, length, replicate, Some, None, Option, ◌==◌, nat_lt}
use Rattle.cause.specs.Numbers.{number}
use Rattle.cause.specs.declared.Cause.{Cause}
use Rattle.cause.specs.declared.Cause.TheVariants.{ListShort}
use Rattle.binder.specs.Meaning.{Meaning, Lawful, in_range}
use Rattle.table.specs.Table.{Shortage}
use Rattle.cover.specs.declared.record.Record.{Record}
use Rattle.curve.specs.declared.lot.Lot.{Lot}
use Rattle.calls.specs.declared.Exposure.{Exposure}
use Rattle.calls.specs.declared.Instruction.{Instruction}
use Rattle.calls.specs.State.{State}
use Rattle.calls.specs.Situation.{situation}
use Rattle.calls.specs.Call.{Outcome, cause}
use Rattle.calls.specs.Call.Call.{allocate, settle}
use Rattle.calls.specs.Call.Outcome.{short, allocated}
use Rattle.calls.specs.Step.{Step}
use Rattle.calls.specs.Life.{Coverable, slip_of_run}

-- schedule 0 admits every lot, with share 6,000; schedule 1 the lots of issuer 1, with share 10,000
abbrev pub schedules : Meaning
schedules = record {
  held = λ n. nat_lt n 2;
  admits = λ n d. in_range d && (n == 0 || (n == 1 && d.issuer == 1));
  share = λ n i. cond (n == 0) 6000 (cond (n == 1) 10000 0);
}

-- a lot of an issuer, with its collateral value
abbrev pub lot : ℕ → ℕ → Option Lot
lot issuer worth = Some (record { issuer = issuer; class = 0; rating = 1; months = 0; market = worth; worth = worth })

-- an exposure of an amount, under a schedule
abbrev pub exposure : ℕ → ℕ → Option Exposure
exposure amount schedule = Some (record { amount = amount; schedule = schedule })

-- lots of value 600 (issuer 1), 500 (issuer 1) and 400 (issuer 2); nothing is pledged yet
abbrev pub book : List (Option Exposure) → State
book exposures = record {
  lots = lot 1 600 ∷ lot 1 500 ∷ lot 2 400 ∷ replicate 61 None;
  exposures = exposures;
  standing = replicate 1024 0;
  working = replicate 1024 0;
  number = 0;
  run = 1;
  in_run = true;
}

-- exposure 0 alone
abbrev pub one : ℕ → State
one amount = book (exposure amount 0 ∷ replicate 15 None)

-- exposure 0 of amount 1,000, and exposure 1
abbrev pub two : ℕ → State
two amount = book (exposure 1000 0 ∷ exposure amount 1 ∷ replicate 14 None)

-- allocating is granted: some lawful table covers, and no answer but this can come back
abbrev pub Granted : State → Type 0
Granted s = Coverable schedules s
    × ((note : Record) (o : Outcome) (t : State) → Step schedules (allocate (slip_of_run s) note) s o t → (k : ℕ) × (o ≡ allocated k note))

-- allocating is short by x: some lawful table leaves x uncovered and none leaves less, and no answer but this can come back
abbrev pub ShortBy : ℕ → State → Type 0
ShortBy x s = Shortage (situation schedules s) x
    × ((note : Record) (o : Outcome) (t : State) → Step schedules (allocate (slip_of_run s) note) s o t → (r : Record) × (o ≡ short x r))

-- what is against settling with a list of n places
abbrev pub Against : State → ℕ → Option Cause → Type 0
Against s n why = (list : List Instruction) → length list ≡ n → cause schedules s (settle (slip_of_run s) list) ≡ why

pub record BookFigures : Type 0 where
  pub lawful : Lawful schedules
  pub one_1000 : Granted (one 1000)
  pub one_1001 : ShortBy 1 (one 1001)
  pub two_500 : Granted (two 500)
  pub two_501 : ShortBy 1 (two 501)
  pub list_6 : Against (two 500) 6 None
  pub list_5 : Against (two 500) 5 (Some ListShort) × (number ListShort ≡ 23)
