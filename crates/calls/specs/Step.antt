-- To believe: what each call does to a book, and what it answers.

use Rattle.std.specs.Prelude.{◌≡◌, ℕ, zero, suc, ◌+◌, ◌*◌, Bool, true, false, ◌⊎◌, List, length, Some, None, Option, slice_set}
use Rattle.cause.specs.declared.Cause.{Cause}
use Rattle.binder.specs.Meaning.{Meaning}
use Rattle.cover.specs.Answer.{noted}
use Rattle.table.specs.Outcome.{Granted as Covered, Short}
use Rattle.curve.specs.Points.{Haircut}
use Rattle.curve.specs.Lot.{lot_of, collateral}
use Rattle.curve.specs.declared.lot.Lot.{Lot}
use Rattle.calls.specs.declared.Exposure.{Exposure}
use Rattle.cover.specs.declared.record.Record.{Record}
use Rattle.calls.specs.State.{State, table}
use Rattle.calls.specs.Situation.{situation}
use Rattle.calls.specs.Instructions.{changes, closings, written}
use Rattle.calls.specs.Call.{Call, Outcome, cause, kept, curve_of}
use Rattle.calls.specs.Call.Call.{add, withdraw, open_exposure, close, begin, allocate, settle, abandon}
use Rattle.calls.specs.Call.Outcome.{refused, short, added, withdrawn, exposed, closed, began, allocated, settled, abandoned}

-- the states that calls lead to
abbrev pub with_lot : State → ℕ → Option Lot → State
with_lot s p l = record { lots = slice_set s.lots p l; exposures = s.exposures; standing = s.standing; working = s.working; number = s.number; run = s.run; in_run = s.in_run }

abbrev pub with_exposure : State → ℕ → Option Exposure → State
with_exposure s p x = record { lots = s.lots; exposures = slice_set s.exposures p x; standing = s.standing; working = s.working; number = s.number; run = s.run; in_run = s.in_run }

abbrev pub with_tables : State → List ℕ → List ℕ → State
with_tables s a b = record { lots = s.lots; exposures = s.exposures; standing = a; working = b; number = s.number; run = s.run; in_run = s.in_run }

abbrev pub with_run : State → ℕ → Bool → State
with_run s r b = record { lots = s.lots; exposures = s.exposures; standing = s.standing; working = s.working; number = s.number; run = r; in_run = b }

-- a table whose pledges of the first n lots to one exposure are 0
unfoldable pub zeroed : List ℕ → ℕ → ℕ → List ℕ
zeroed t e zero = t
zeroed t e (suc n) = slice_set (zeroed t e n) (n * 16 + e) 0

-- an allocation is served: a table that covers, reached by so many rounds from where it started
pub record Serves (m : Meaning) (s : State) (note : Record) (o : Outcome) (t : State) : Type 0 where
  pub rounds : ℕ
  pub pledges : List ℕ
  pub answer : o ≡ allocated rounds note
  pub after : t ≡ with_tables s s.standing pledges
  pub size : length pledges ≡ 1024
  pub covered : Covered (situation m s) rounds (table s.working) (table pledges)

-- or it is short: the least shortage, with a record that explains it
pub record Denies (m : Meaning) (s : State) (o : Outcome) (t : State) : Type 0 where
  pub shortage : ℕ
  pub note : Record
  pub answer : o ≡ short shortage note
  pub same : t ≡ s
  pub denied : Short (situation m s) shortage (noted note)

-- what a call that no cause is against answers, and the state after it
abbrev pub Grants : Meaning → Call → State → Outcome → State → Type 0
Grants m (add p terms k) s o t =
    (h : ℕ) × Haircut (curve_of k terms.class) terms.months h × (o ≡ added (collateral terms.market h)) × (t ≡ with_lot s p (Some (lot_of terms h)))
Grants m (withdraw p) s o t = (o ≡ withdrawn) × (t ≡ with_lot s p None)
Grants m (open_exposure p a n) s o t = (o ≡ exposed) × (t ≡ with_exposure s p (Some (record { amount = a; schedule = n })))
Grants m (close p list) s o t =
    (o ≡ closed (length (closings s.standing p 64)) (written (closings s.standing p 64) list))
    × (t ≡ with_tables (with_exposure s p None) (zeroed s.standing p 64) (zeroed s.working p 64))
Grants m begin s o t = (o ≡ began (record { book = s.number; run = s.run + 1 })) × (t ≡ with_run s (s.run + 1) true)
Grants m (allocate slip note) s o t = Serves m s note o t ⊎ Denies m s o t
Grants m (settle slip list) s o t =
    (o ≡ settled (length (changes s.standing s.working 1024)) (written (changes s.standing s.working 1024) list))
    × (t ≡ with_run (with_tables s s.working s.working) s.run false)
Grants m (abandon slip) s o t = (o ≡ abandoned) × (t ≡ with_run (with_tables s s.standing s.standing) s.run false)

-- a call is refused for its first cause, and then nothing changes; with no cause against it, it is granted
abbrev pub Decided : Option Cause → Meaning → Call → State → Outcome → State → Type 0
Decided (Some e) m c s o t = (o ≡ refused e (kept c)) × (t ≡ s)
Decided None m c s o t = Grants m c s o t

abbrev pub Step : Meaning → Call → State → Outcome → State → Type 0
Step m c s o t = Decided (cause m s c) m c s o t
