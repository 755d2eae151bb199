-- To believe: what a table is judged by, in a book under a binder.

use Rattle.std.specs.Prelude.{ℕ, ◌*◌, ◌/◌, Bool, false, List, Some, None, Option}
use Rattle.grammar.specs.declared.Description.{Description}
use Rattle.binder.specs.Meaning.{Meaning}
use Rattle.table.specs.Table.{Situation}
use Rattle.curve.specs.declared.lot.Lot.{Lot}
use Rattle.calls.specs.declared.Exposure.{Exposure}
use Rattle.calls.specs.State.{State, lot_at, exposure_at, held_at, open_at}

-- what a schedule is asked about a lot
abbrev pub description : Lot → Description
description l = record { class = l.class; rating = l.rating; months = l.months; issuer = l.issuer }

-- the fields of what stands at a place; an empty place has nothing
abbrev pub issuer_of : Option Lot → ℕ
issuer_of None = 0
issuer_of (Some l) = l.issuer

abbrev pub worth_of : Option Lot → ℕ
worth_of None = 0
worth_of (Some l) = l.worth

abbrev pub amount_of : Option Exposure → ℕ
amount_of None = 0
amount_of (Some x) = x.amount

-- whether an exposure's schedule admits a lot
abbrev pub admits_of : Meaning → Option Lot → Option Exposure → Bool
admits_of m None x = false
admits_of m (Some l) None = false
admits_of m (Some l) (Some x) = m.admits x.schedule (description l)

-- an exposure's limit for an issuer: its share of the amount, rounded down
abbrev pub limit_of : Meaning → Option Exposure → ℕ → ℕ
limit_of m None i = 0
limit_of m (Some x) i = x.amount * m.share x.schedule i / 10000

abbrev pub situation_of : Meaning → List (Option Lot) → List (Option Exposure) → Situation
situation_of m lots exposures = record {
  held = held_at lots;
  issuer = λ l. issuer_of (lot_at lots l);
  worth = λ l. worth_of (lot_at lots l);
  opened = open_at exposures;
  amount = λ e. amount_of (exposure_at exposures e);
  admits = λ l e. admits_of m (lot_at lots l) (exposure_at exposures e);
  limit = λ e i. limit_of m (exposure_at exposures e) i;
}

abbrev pub situation : Meaning → State → Situation
situation m s = situation_of m s.lots s.exposures
