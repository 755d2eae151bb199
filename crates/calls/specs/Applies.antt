-- To believe: when each cause of refusal applies to a call.
--
-- One line for each cause and each call that it can refuse, in the order of the causes' numbers. Several may apply to one call. The
-- last cause of the list, that no lawful table covers, is not here: it is a statement about all tables, which a test of the state
-- cannot make, and stands in what allocating grants.

use Rattle.std.specs.Prelude.{◌≡◌, ℕ, ◌*◌, ◌<◌, ◌≤◌, true, false, List, length, Some, None}
use Rattle.cause.specs.declared.Cause.{Cause}
use Rattle.cause.specs.declared.Cause.TheVariants.{PlaceOutside, RunOpen, PlaceTaken, PlaceEmpty, FieldOutside, PastCurve, ScheduleUnknown, LotPledged, RunsSpent, SlipStale, ListShort}
use Rattle.binder.specs.Meaning.{Meaning}
use Rattle.curve.specs.Points.{Past}
use Rattle.curve.specs.Lot.{InRange}
use Rattle.curve.specs.declared.card.Card.{Card}
use Rattle.curve.specs.declared.lot.Lot.{Lot}
use Rattle.curve.specs.declared.lot.Terms.{Terms}
use Rattle.calls.specs.declared.Exposure.{Exposure}
use Rattle.calls.specs.declared.Instruction.{Instruction}
use Rattle.cover.specs.declared.record.Record.{Record}
use Rattle.calls.specs.State.{State, table, lot_at, exposure_at}
use Rattle.calls.specs.Call.{Call, Numbers, held_lots, open_exposures, curve_of}
use Rattle.calls.specs.Call.Call.{add, withdraw, open_exposure, close, begin, allocate, settle, abandon}

-- an exposure's amount is in its range
pub record AmountInRange (a : ℕ) : Type 0 where
  pub positive : 1 ≤ a
  pub most : a ≤ 1000000000000

-- a slip's two numbers are those of the book's open run
pub record Own (s : State) (slip : Numbers) : Type 0 where
  pub run_open : s.in_run ≡ true
  pub book : slip.book ≡ s.number
  pub run : slip.run ≡ s.run

pub data Applies (m : Meaning) (s : State) : Call → Cause → Type 0 where
  -- 13: a lot place over 63 or an exposure place over 15
  add_outside : {p : ℕ} {t : Terms} {k : Card} → 63 < p → Applies m s (add p t k) PlaceOutside
  withdraw_outside : {p : ℕ} → 63 < p → Applies m s (withdraw p) PlaceOutside
  open_outside : {p a n : ℕ} → 15 < p → Applies m s (open_exposure p a n) PlaceOutside
  close_outside : {p : ℕ} {list : List Instruction} → 15 < p → Applies m s (close p list) PlaceOutside
  -- 14: a run is open
  add_in_run : {p : ℕ} {t : Terms} {k : Card} → s.in_run ≡ true → Applies m s (add p t k) RunOpen
  withdraw_in_run : {p : ℕ} → s.in_run ≡ true → Applies m s (withdraw p) RunOpen
  open_in_run : {p a n : ℕ} → s.in_run ≡ true → Applies m s (open_exposure p a n) RunOpen
  close_in_run : {p : ℕ} {list : List Instruction} → s.in_run ≡ true → Applies m s (close p list) RunOpen
  begin_in_run : s.in_run ≡ true → Applies m s begin RunOpen
  -- 15: the place is taken
  add_taken : {p : ℕ} {t : Terms} {k : Card} (x : Lot) → lot_at s.lots p ≡ Some x → Applies m s (add p t k) PlaceTaken
  open_taken : {p a n : ℕ} (x : Exposure) → exposure_at s.exposures p ≡ Some x → Applies m s (open_exposure p a n) PlaceTaken
  -- 16: the place is empty
  withdraw_empty : {p : ℕ} → lot_at s.lots p ≡ None → Applies m s (withdraw p) PlaceEmpty
  close_empty : {p : ℕ} {list : List Instruction} → exposure_at s.exposures p ≡ None → Applies m s (close p list) PlaceEmpty
  -- 17: a field of the lot, or the amount, outside its range
  add_field : {p : ℕ} {t : Terms} {k : Card} → (InRange t → ⊥) → Applies m s (add p t k) FieldOutside
  open_amount : {p a n : ℕ} → (AmountInRange a → ⊥) → Applies m s (open_exposure p a n) FieldOutside
  -- 18: months after the last point of the class's curve
  add_past : {p : ℕ} {t : Terms} {k : Card} → Past (curve_of k t.class) t.months → Applies m s (add p t k) PastCurve
  -- 19: a schedule number that the binder does not hold
  open_unknown : {p a n : ℕ} → m.held n ≡ false → Applies m s (open_exposure p a n) ScheduleUnknown
  -- 20: the lot has a standing pledge
  withdraw_pledged : {p : ℕ} (e : ℕ) → e < 16 → 0 < table s.standing p e → Applies m s (withdraw p) LotPledged
  -- 21: the run number is already 1,000,000
  begin_spent : 1000000 ≤ s.run → Applies m s begin RunsSpent
  -- 22: a slip whose two numbers are not those of this book's open run
  allocate_stale : {slip : Numbers} {note : Record} → (Own s slip → ⊥) → Applies m s (allocate slip note) SlipStale
  settle_stale : {slip : Numbers} {list : List Instruction} → (Own s slip → ⊥) → Applies m s (settle slip list) SlipStale
  abandon_stale : {slip : Numbers} → (Own s slip → ⊥) → Applies m s (abandon slip) SlipStale
  -- 23: a list shorter than held lots times open exposures, or than held lots
  settle_short : {slip : Numbers} {list : List Instruction} → length list < held_lots s * open_exposures s → Applies m s (settle slip list) ListShort
  close_short : {p : ℕ} {list : List Instruction} → length list < held_lots s → Applies m s (close p list) ListShort
