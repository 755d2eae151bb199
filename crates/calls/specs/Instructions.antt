-- To believe: which instructions a settling and a closing give out, and what instructions add up to.

use Rattle.std.specs.Prelude.{ℕ, zero, suc, ◌/◌, ◌%◌, cond, ◌&&◌, List, [], ◌∷◌, ◌++◌, length, drop, ℤ, pos, ◌+ℤ◌, ◌-ℤ◌, ◌==◌, slice_index}
use Rattle.calls.specs.declared.Instruction.{Instruction}
use Rattle.calls.specs.State.{table}

-- the pledge of the lot l to the exposure e goes from old to new
abbrev pub moves : ℕ → ℕ → ℕ → ℕ → Instruction
moves l e old new = record { lot = l; exposure = e; amount = pos new -ℤ pos old }

-- an instruction where they differ, and none where they are equal
abbrev pub move : ℕ → ℕ → ℕ → ℕ → List Instruction
move l e old new = cond (new == old) [] (moves l e old new ∷ [])

-- one instruction for each of the first n places where two tables differ, by lot and then by exposure
unfoldable pub changes : List ℕ → List ℕ → ℕ → List Instruction
changes old new zero = []
changes old new (suc n) = changes old new n ++ move (n / 16) (n % 16) (slice_index old n) (slice_index new n)

-- one instruction for each pledge of the first n lots to one exposure, which goes to 0
unfoldable pub closings : List ℕ → ℕ → ℕ → List Instruction
closings old e zero = []
closings old e (suc n) = closings old e n ++ move n e (table old n e) 0

-- a list whose first records are written over; those after them stay
abbrev pub written : List Instruction → List Instruction → List Instruction
written new old = new ++ drop (length new) old

-- what instructions add up to at one lot place and exposure place
abbrev pub amount_at : Instruction → ℕ → ℕ → ℤ
amount_at i l e = cond (i.lot == l && i.exposure == e) i.amount (pos 0)

abbrev pub amounts : List Instruction → ℕ → ℕ → ℤ
amounts [] l e = pos 0
amounts (i ∷ is) l e = amount_at i l e +ℤ amounts is l e
