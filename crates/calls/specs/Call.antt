-- To believe: the calls with what they are passed, what comes back, and why a call is refused.

use Rattle.std.specs.Prelude.{ℕ, ◌-◌, ◌*◌, Bool, cond, not, ◌&&◌, List, [], length, take, Some, None, Option, ◌==◌, nat_le, nat_lt}
use Rattle.cause.specs.declared.Cause.{Cause}
use Rattle.cause.specs.declared.Cause.TheVariants.{PlaceOutside, RunOpen, PlaceTaken, PlaceEmpty, FieldOutside, PastCurve, ScheduleUnknown, LotPledged, RunsSpent, SlipStale, ListShort}
use Rattle.network.specs.Sums.{sum_over, when}
use Rattle.binder.specs.Meaning.{Meaning}
use Rattle.curve.specs.Points.{Points}
use Rattle.curve.specs.Card.{nth_points}
use Rattle.curve.specs.declared.card.Card.{Card}
use Rattle.curve.specs.declared.lot.Terms.{Terms}
use Rattle.calls.specs.declared.Instruction.{Instruction}
use Rattle.cover.specs.declared.record.Record.{Record}
use Rattle.calls.specs.State.{State, table, held_at, open_at}

-- a slip's two numbers: of the book and of the run
pub record Numbers : Type 0 where
  pub book : ℕ
  pub run : ℕ

-- the eight calls that change a book. A list or a record is passed with what it holds
pub data Call : Type 0 where
  add : (place : ℕ) (terms : Terms) (card : Card) → Call
  withdraw : (place : ℕ) → Call
  open_exposure : (place amount schedule : ℕ) → Call
  close : (place : ℕ) (list : List Instruction) → Call
  begin : Call
  allocate : (slip : Numbers) (note : Record) → Call
  settle : (slip : Numbers) (list : List Instruction) → Call
  abandon : (slip : Numbers) → Call

-- what the caller has afterwards of what it passed: the slip that is handed back, the list and the record
pub record Back : Type 0 where
  pub slip : Option Numbers
  pub list : List Instruction
  pub note : Option Record

pub data Outcome : Type 0 where
  refused : Cause → Back → Outcome
  -- no lawful table covers: the shortage, and the record
  short : ℕ → Record → Outcome
  -- the collateral value
  added : ℕ → Outcome
  withdrawn : Outcome
  exposed : Outcome
  -- how many instructions were written, and the list
  closed : ℕ → List Instruction → Outcome
  began : Numbers → Outcome
  -- the number of rounds, and the record
  allocated : ℕ → Record → Outcome
  settled : ℕ → List Instruction → Outcome
  abandoned : Outcome

-- a refusal hands back everything as it was passed
abbrev pub kept : Call → Back
kept (add p t k) = record { slip = None; list = []; note = None }
kept (withdraw p) = record { slip = None; list = []; note = None }
kept (open_exposure p a n) = record { slip = None; list = []; note = None }
kept (close p list) = record { slip = None; list = list; note = None }
kept begin = record { slip = None; list = []; note = None }
kept (allocate slip r) = record { slip = Some slip; list = []; note = Some r }
kept (settle slip list) = record { slip = Some slip; list = list; note = None }
kept (abandon slip) = record { slip = Some slip; list = []; note = None }

-- how many of the first n places pass a test
abbrev pub count : ℕ → (ℕ → Bool) → ℕ
count n p = sum_over n (λ k. when (p k) 1)

abbrev pub held_lots : State → ℕ
held_lots s = count 64 (held_at s.lots)

abbrev pub open_exposures : State → ℕ
open_exposures s = count 16 (open_at s.exposures)

-- the lot has a standing pledge
abbrev pub pledged_at : State → ℕ → Bool
pledged_at s l = nat_lt 0 (sum_over 16 (λ e. table s.standing l e))

-- the fields of a lot are in their ranges
abbrev pub in_range : Terms → Bool
in_range t = nat_le t.issuer 255 && (nat_le t.class 7 && (nat_le 1 t.rating && (nat_le t.rating 22 && (nat_le t.months 1200 && (nat_le 1 t.market && nat_le t.market 100000000000)))))

-- the curve of a class
abbrev pub curve_of : Card → ℕ → Points
curve_of k class = nth_points k.curves class

-- a month comes after a curve's last point
abbrev pub past_end : Points → ℕ → Bool
past_end c m = nat_lt (c.month (c.count - 1)) m

-- the slip is that of the book's open run
abbrev pub own : State → Numbers → Bool
own s n = s.in_run && (n.book == s.number && n.run == s.run)

-- the first cause that applies, of a cause and what comes after it
abbrev pub first : Bool → Cause → Option Cause → Option Cause
first b e rest = cond b (Some e) rest

-- Why a call is refused: of several causes the one with the smallest number. That no lawful table covers is said with what
-- allocating grants.
abbrev pub cause : Meaning → State → Call → Option Cause
cause m s (add p t k) =
    first (nat_lt 63 p) PlaceOutside (first s.in_run RunOpen (first (held_at s.lots p) PlaceTaken
    (first (not (in_range t)) FieldOutside (first (past_end (curve_of k t.class) t.months) PastCurve None))))
cause m s (withdraw p) =
    first (nat_lt 63 p) PlaceOutside (first s.in_run RunOpen (first (not (held_at s.lots p)) PlaceEmpty (first (pledged_at s p) LotPledged None)))
cause m s (open_exposure p a n) =
    first (nat_lt 15 p) PlaceOutside (first s.in_run RunOpen (first (open_at s.exposures p) PlaceTaken
    (first (not (nat_le 1 a && nat_le a 1000000000000)) FieldOutside (first (not (m.held n)) ScheduleUnknown None))))
cause m s (close p list) =
    first (nat_lt 15 p) PlaceOutside (first s.in_run RunOpen (first (not (open_at s.exposures p)) PlaceEmpty
    (first (nat_lt (length list) (held_lots s)) ListShort None)))
cause m s begin = first s.in_run RunOpen (first (nat_le 1000000 s.run) RunsSpent None)
cause m s (allocate slip r) = first (not (own s slip)) SlipStale None
cause m s (settle slip list) = first (not (own s slip)) SlipStale (first (nat_lt (length list) (held_lots s * open_exposures s)) ListShort None)
cause m s (abandon slip) = first (not (own s slip)) SlipStale None

-- the instructions that a call writes and counts
abbrev pub given_out : Outcome → List Instruction
given_out (refused e b) = []
given_out (short x r) = []
given_out (added v) = []
given_out withdrawn = []
given_out exposed = []
given_out (closed n list) = take n list
given_out (began n) = []
given_out (allocated k r) = []
given_out (settled n list) = take n list
given_out abandoned = []
