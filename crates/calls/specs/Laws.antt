-- To believe: nothing new. What is proved of the definitions.

use Rattle.std.specs.Prelude.{◌≡◌, ℕ, ◌≤◌, ◌↔◌, List, Some, None}
use Rattle.cause.specs.Numbers.{number}
use Rattle.cause.specs.declared.Cause.{Cause}
use Rattle.binder.specs.Meaning.{Meaning}
use Rattle.calls.specs.declared.Instruction.{Instruction}
use Rattle.calls.specs.State.{State}
use Rattle.calls.specs.Call.{Call, cause}
use Rattle.calls.specs.Applies.{Applies}
use Rattle.calls.specs.Life.{Life, Sound}
use Rattle.calls.specs.History.{Told}

-- The cause of a call is, of those that apply to it, the one with the smallest number; and a call has none exactly if none applies.
abbrev pub SmallestCause : Type 0
SmallestCause = (m : Meaning) (s : State) (c : Call)
    → ((k : Cause) → (cause m s c ≡ Some k) ↔ (Applies m s c k × ((j : Cause) → Applies m s c j → number k ≤ number j)))
    × ((cause m s c ≡ None) ↔ ((j : Cause) → Applies m s c j → ⊥))

-- every moment of every life, under any binder
abbrev pub EveryLifeSound : Type 0
EveryLifeSound = (m : Meaning) (number : ℕ) (s : State) (given : List Instruction) → Life m number s given → Sound m s given

-- which lots are held, which exposures are open and whether a run is open follows from the granted calls alone
abbrev pub ToldByCalls : Type 0
ToldByCalls = (m : Meaning) (number : ℕ) (s : State) (given : List Instruction) (life : Life m number s given) → Told life
