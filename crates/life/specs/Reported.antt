-- To believe: nothing that a call promises. What is told of the answer of an allocation.

use Rattle.std.specs.Prelude.{ℕ, Ok, Err, Result}
use Rattle.cause.specs.declared.Cause.TheVariants.{SlipStale}
use Rattle.cover.specs.declared.record.Record.{Record}
use Rattle.book.specs.declared.book.allocate.AllocateFault.{AllocateFault}
use Rattle.book.specs.declared.book.allocate.AllocateFault.TheVariants as fault
use Rattle.life.specs.Turn.{Outcome}
use Rattle.life.specs.declared.order.Granted.TheVariants.{Allocated}
use Rattle.life.specs.declared.order.Refused.TheVariants.{For, Short}

abbrev pub reported : Result ℕ AllocateFault → Record → Outcome
reported (Ok k) note = Ok (Allocated k)
reported (Err fault.Slip) note = Err (For SlipStale)
reported (Err (fault.Short x)) note = Err (Short x note)
