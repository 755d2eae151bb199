-- To believe: nothing that a call promises. What an allocation does to the book and the record, once the slip is in order. Said again by the relation over calls.

use Rattle.std.specs.Prelude.{◌≡◌, ℕ, length, Ok, Err, Result}
use Rattle.binder.specs.Meaning.{Meaning}
use Rattle.table.specs.Outcome.{Granted, Short}
use Rattle.cover.specs.Answer.{noted}
use Rattle.cover.specs.declared.record.Record.{Record}
use Rattle.calls.specs.State.{State, table}
use Rattle.calls.specs.Situation.{situation}
use Rattle.calls.specs.Step.{with_tables}

abbrev pub Covering : Meaning → State → Record → Record → State → Result ℕ ℕ → Type 0
Covering m s old new t (Ok k) = (t ≡ with_tables s s.standing t.working) × (length t.working ≡ 1024) × Granted (situation m s) k (table s.working) (table t.working) × (new ≡ old)
Covering m s old new t (Err x) = (t ≡ s) × Short (situation m s) x (noted new)
