-- To believe: nothing that a call promises. The answers of a binder that are written down for an allocation. No promise rests on reading them.

use Rattle.std.specs.Prelude.{ℕ, Some, None, Option}
use Rattle.binder.specs.Meaning.{Meaning}
use Rattle.curve.specs.declared.lot.Lot.{Lot}
use Rattle.calls.specs.declared.Exposure.{Exposure}
use Rattle.calls.specs.Situation.{admits_of, limit_of}
use Rattle.cover.specs.declared.problem.Lot.{Lot as Held}
use Rattle.cover.specs.declared.problem.Terms.{Terms}

-- what an allocation is told of a lot, and of an exposure
abbrev pub held_as : Lot → Held
held_as l = record { issuer = l.issuer; worth = l.worth }

abbrev pub amount : Exposure → ℕ
amount x = x.amount

-- an exposure's limit for a lot's issuer
abbrev pub limit_for : Meaning → Option Lot → Option Exposure → ℕ
limit_for m None x = 0
limit_for m (Some l) None = 0
limit_for m (Some l) (Some x) = limit_of m (Some x) l.issuer

-- what is written down of a pair
abbrev pub terms_for : Meaning → Option Lot → Option Exposure → Terms
terms_for m l x = record { admitted = admits_of m l x; limit = limit_for m l x }
