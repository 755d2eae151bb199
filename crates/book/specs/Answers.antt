-- To believe: which outcome the result of each call is.

use Rattle.std.specs.Prelude.{ℕ, List, [], Some, None, Ok, Err, Result}
use Rattle.cause.specs.declared.Cause.{Cause}
use Rattle.calls.specs.declared.Instruction.{Instruction}
use Rattle.calls.specs.Call.{Outcome, Numbers}
use Rattle.calls.specs.Call.Outcome.{refused, short, added, withdrawn, exposed, closed, began, allocated, settled, abandoned}
use Rattle.cover.specs.declared.record.Record.{Record}
use Rattle.cause.specs.declared.Cause.TheVariants.{SlipStale, NotCovered}
use Rattle.book.specs.declared.slip.Slip.{Slip as Slipped}
use Rattle.book.specs.declared.book.allocate.AllocateFault.{AllocateFault}
use Rattle.book.specs.declared.book.allocate.AllocateFault.TheVariants.{Slip, Short}
use Rattle.book.specs.View.{numbers}

-- a refusal of a call that was passed nothing to hand back
abbrev pub plainly : Cause → Outcome
plainly e = refused e (record { slip = None; list = []; note = None })

abbrev pub adding : Result ℕ Cause → Outcome
adding (Ok v) = added v
adding (Err e) = plainly e

abbrev pub withdrawing : Result (Unit {0}) Cause → Outcome
withdrawing (Ok u) = withdrawn
withdrawing (Err e) = plainly e

abbrev pub opening : Result (Unit {0}) Cause → Outcome
opening (Ok u) = exposed
opening (Err e) = plainly e

abbrev pub closing : List Instruction → Result ℕ Cause → Outcome
closing list (Ok n) = closed n list
closing list (Err e) = refused e (record { slip = None; list = list; note = None })

abbrev pub beginning : Result Slipped Cause → Outcome
beginning (Ok s) = began (numbers s)
beginning (Err e) = plainly e

abbrev pub settling : List Instruction → Result ℕ (Cause × Slipped) → Outcome
settling list (Ok n) = settled n list
settling list (Err (e, s)) = refused e (record { slip = Some (numbers s); list = list; note = None })

abbrev pub abandoning : Result (Unit {0}) (Cause × Slipped) → Outcome
abandoning (Ok u) = abandoned
abandoning (Err (e, s)) = refused e (record { slip = Some (numbers s); list = []; note = None })

abbrev pub allocating : Numbers → Record → Result ℕ AllocateFault → Outcome
allocating slip note (Ok k) = allocated k note
allocating slip note (Err Slip) = refused SlipStale (record { slip = Some slip; list = []; note = Some note })
allocating slip note (Err (Short x)) = short x note

-- the cause of such a refusal
abbrev pub cause_of : AllocateFault → Cause
cause_of Slip = SlipStale
cause_of (Short x) = NotCovered
