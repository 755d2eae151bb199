-- To believe: what a life of a book is, and what holds at every moment of it.

use Rattle.std.specs.Prelude.{◌≡◌, ℕ, ◌+◌, ◌<◌, ◌≤◌, Bool, true, ◌↔◌, List, [], ◌++◌, length, pos}
use Rattle.binder.specs.Meaning.{Meaning}
use Rattle.network.specs.Flow.{capacity, Maximum, Minimum}
use Rattle.table.specs.Table.{Table, Lawful, Covers, owed, uncovered}
use Rattle.table.specs.Drawn.{net_of, flow_of}
use Rattle.table.specs.Record.{Explains}
use Rattle.table.specs.Outcome.{Start, Chain}
use Rattle.calls.specs.declared.Instruction.{Instruction}
use Rattle.cover.specs.declared.record.Record.{Record}
use Rattle.calls.specs.State.{State, opening, table}
use Rattle.calls.specs.Situation.{situation}
use Rattle.calls.specs.Instructions.{amounts}
use Rattle.calls.specs.Call.{Call, Outcome, Numbers, given_out}
use Rattle.calls.specs.Call.Call.{allocate, settle, abandon}
use Rattle.calls.specs.Call.Outcome.{short, allocated, settled, abandoned}
use Rattle.calls.specs.Step.{Step}
use Rattle.cover.specs.Answer.{noted}

-- the states that a book comes to by calls one after the other, granted or refused, from the opening on, with the instructions
-- given out so far. One binder, of meaning m, serves all calls
pub data Life (m : Meaning) (number : ℕ) : State → List Instruction → Type 0 where
  opened : Life m number (opening number) []
  next : {s : State} {given : List Instruction} → Life m number s given
      → (c : Call) (o : Outcome) (t : State) → Step m c s o t → Life m number t (given ++ given_out o)

-- the slip of the open run
abbrev pub slip_of_run : State → Numbers
slip_of_run s = record { book = s.number; run = s.run }

-- some table within the rules covers every open exposure
abbrev pub Coverable : Meaning → State → Type 0
Coverable m s = (p : Table) × Lawful (situation m s) p × Covers (situation m s) p

-- an allocation that is granted: the run holds a lawful table that covers. It is a maximum flow of the drawn network, reached by
-- rounds from where they started
pub record Held (m : Meaning) (s : State) (rounds : ℕ) (t : State) : Type 0 where
  pub lawful : Lawful (situation m t) (table t.working)
  pub covers : Covers (situation m t) (table t.working)
  pub maximum : Maximum (net_of (situation m s)) (flow_of (situation m s) (table t.working))
  pub first : Table
  pub starts : Start (situation m s) (table s.working) first
  pub chain : Chain (situation m s) rounds first (table t.working)

-- an allocation that is refused: x is the least that any lawful table leaves uncovered, and the record explains it. A minimum cut of
-- the drawn network carries the rest of what is owed
pub record Least (m : Meaning) (s : State) (x : ℕ) (note : Record) : Type 0 where
  pub some : (p : Table) × Lawful (situation m s) p × (uncovered (situation m s) p ≡ x)
  pub every : (p : Table) → Lawful (situation m s) p → x ≤ uncovered (situation m s) p
  pub above : 0 < x
  pub explains : Explains (situation m s) (noted note) x
  pub cut : (S : ℕ → Bool) × Minimum (net_of (situation m s)) S × (capacity (net_of (situation m s)) S + x ≡ owed (situation m s))

-- allocating with the open run's slip: granted exactly if some lawful table covers, and else the refusal states the least shortage
pub record Allocates (m : Meaning) (s : State) (note : Record) (o : Outcome) (t : State) : Type 0 where
  pub granted : Coverable m s ↔ ((k : ℕ) × (o ≡ allocated k note))
  pub refused : (Coverable m s → ⊥) ↔ ((x : ℕ) × (r : Record) × (o ≡ short x r))
  pub held : (k : ℕ) → o ≡ allocated k note → Held m s k t
  pub least : (x : ℕ) (r : Record) → o ≡ short x r → Least m s x r × (t ≡ s)

-- 64 lot places, 16 exposure places, and 1,024 places in each pledge table
pub record Sizes (s : State) : Type 0 where
  pub lots : length s.lots ≡ 64
  pub exposures : length s.exposures ≡ 16
  pub standing : length s.standing ≡ 1024
  pub working : length s.working ≡ 1024

-- what holds at every moment of a life
pub record Sound (m : Meaning) (s : State) (given : List Instruction) : Type 0 where
  pub sizes : Sizes s
  -- both tables are lawful
  pub standing : Lawful (situation m s) (table s.standing)
  pub working : Lawful (situation m s) (table s.working)
  -- allocating with the open run's slip
  pub allocates : s.in_run ≡ true → (note : Record) (o : Outcome) (t : State) → Step m (allocate (slip_of_run s) note) s o t → Allocates m s note o t
  -- the instructions given out since the opening add up to the pledges that stand
  pub tallies : (l e : ℕ) → l < 64 → e < 16 → amounts given l e ≡ pos (table s.standing l e)
  -- a granted settling makes the working table stand; a granted abandoning makes the working table the standing one again
  pub settles : (slip : Numbers) (list : List Instruction) (n : ℕ) (new : List Instruction) (t : State)
      → Step m (settle slip list) s (settled n new) t → (t.standing ≡ s.working) × (t.working ≡ s.working)
  pub abandons : (slip : Numbers) (t : State) → Step m (abandon slip) s abandoned t → (t.working ≡ s.standing) × (t.standing ≡ s.standing)
