-- To believe: what the granted calls of a life say, by themselves, of each place and of the run.
--
-- A lot is held from adding to withdrawing, with the fields that it was added with and the value that adding returned. An exposure is
-- open from opening to closing, with the amount and the schedule that it was opened with. A run is open from beginning to settling or
-- abandoning. Calls that were refused say nothing.

use Rattle.std.specs.Prelude.{◌≡◌, ℕ, ◌+◌, ◌<◌, Bool, true, false, cond, List, Some, None, Option, ◌==◌}
use Rattle.binder.specs.Meaning.{Meaning}
use Rattle.curve.specs.declared.lot.Lot.{Lot}
use Rattle.curve.specs.declared.lot.Terms.{Terms}
use Rattle.calls.specs.declared.Exposure.{Exposure}
use Rattle.calls.specs.declared.Instruction.{Instruction}
use Rattle.calls.specs.State.{State, lot_at, exposure_at}
use Rattle.calls.specs.Call.{Call, Outcome}
use Rattle.calls.specs.Call.Call.{add, withdraw, open_exposure, close, begin, allocate, settle, abandon}
use Rattle.calls.specs.Call.Outcome.{refused, short, added, withdrawn, exposed, closed, began, allocated, settled, abandoned}
use Rattle.calls.specs.Life.{Life}
use Rattle.calls.specs.Life.Life.{opened, next}

-- whether a call was granted, by what came back
abbrev pub granted : Outcome → Bool
granted (refused e b) = false
granted (short x r) = false
granted (added v) = true
granted withdrawn = true
granted exposed = true
granted (closed n list) = true
granted (began n) = true
granted (allocated k r) = true
granted (settled n list) = true
granted abandoned = true

-- the collateral value that adding returned
abbrev pub value_of : Outcome → ℕ
value_of (refused e b) = 0
value_of (short x r) = 0
value_of (added v) = v
value_of withdrawn = 0
value_of exposed = 0
value_of (closed n list) = 0
value_of (began n) = 0
value_of (allocated k r) = 0
value_of (settled n list) = 0
value_of abandoned = 0

abbrev pub lot_with : Terms → ℕ → Lot
lot_with t v = record { issuer = t.issuer; class = t.class; rating = t.rating; months = t.months; market = t.market; worth = v }

-- what a granted call makes of the lot place l
abbrev pub lot_after : Call → Outcome → ℕ → Option Lot → Option Lot
lot_after (add p t k) o l x = cond (l == p) (Some (lot_with t (value_of o))) x
lot_after (withdraw p) o l x = cond (l == p) None x
lot_after (open_exposure p a n) o l x = x
lot_after (close p list) o l x = x
lot_after begin o l x = x
lot_after (allocate slip note) o l x = x
lot_after (settle slip list) o l x = x
lot_after (abandon slip) o l x = x

-- of the exposure place e
abbrev pub exposure_after : Call → ℕ → Option Exposure → Option Exposure
exposure_after (add p t k) e x = x
exposure_after (withdraw p) e x = x
exposure_after (open_exposure p a n) e x = cond (e == p) (Some (record { amount = a; schedule = n })) x
exposure_after (close p list) e x = cond (e == p) None x
exposure_after begin e x = x
exposure_after (allocate slip note) e x = x
exposure_after (settle slip list) e x = x
exposure_after (abandon slip) e x = x

-- and of the run: whether one is open, and how many were begun
pub record Runs : Type 0 where
  pub is_open : Bool
  pub begun : ℕ

abbrev pub runs_after : Call → Runs → Runs
runs_after (add p t k) r = r
runs_after (withdraw p) r = r
runs_after (open_exposure p a n) r = r
runs_after (close p list) r = r
runs_after begin r = record { is_open = true; begun = r.begun + 1 }
runs_after (allocate slip note) r = r
runs_after (settle slip list) r = record { is_open = false; begun = r.begun }
runs_after (abandon slip) r = record { is_open = false; begun = r.begun }

-- what a whole life says
module _ {m : Meaning} {number : ℕ} where
  abbrev pub lot_told : {s : State} {given : List Instruction} → Life m number s given → ℕ → Option Lot
  lot_told opened l = None
  lot_told (next life c o t step) l = cond (granted o) (lot_after c o l (lot_told life l)) (lot_told life l)

  abbrev pub exposure_told : {s : State} {given : List Instruction} → Life m number s given → ℕ → Option Exposure
  exposure_told opened e = None
  exposure_told (next life c o t step) e = cond (granted o) (exposure_after c e (exposure_told life e)) (exposure_told life e)

  abbrev pub runs_told : {s : State} {given : List Instruction} → Life m number s given → Runs
  runs_told opened = record { is_open = false; begun = 0 }
  runs_told (next life c o t step) = cond (granted o) (runs_after c (runs_told life)) (runs_told life)

-- a state is what the granted calls of a life said
pub record Told {m : Meaning} {number : ℕ} {s : State} {given : List Instruction} (life : Life m number s given) : Type 0 where
  pub lots : (l : ℕ) → l < 64 → lot_at s.lots l ≡ lot_told life l
  pub exposures : (e : ℕ) → e < 16 → exposure_at s.exposures e ≡ exposure_told life e
  pub runs : record { is_open = s.in_run; begun = s.run } ≡ runs_told life
  pub number_is : s.number ≡ number
