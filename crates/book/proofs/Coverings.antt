-- What an allocation over the answers that were written down says of the book itself.

use Rattle.std.proofs.Common.{◌≡◌, ℕ, true, false, List, length, is_ok, Ok, Err, Result, refl}
use Rattle.binder.specs.Meaning.{Meaning}
use Rattle.table.specs.Table.{Situation, Lawful}
use Rattle.table.specs.Agreement.{Agrees}
use Rattle.table.proofs.Agreement.{agrees_sym, granted_there, short_there}
use Rattle.cover.specs.Answer.{Allocated, noted}
use Rattle.cover.specs.declared.record.Record.{Record}
use Rattle.calls.specs.State.{State, table}
use Rattle.calls.specs.Situation.{situation}
use Rattle.calls.specs.Step.{with_tables}
use Rattle.book.specs.Covering.{Covering}

module _ (m : Meaning) (s : State) (r : Situation) (agree : Agrees (situation m s) r) (old new : Record) (after : List ℕ) where
  pub lawful_after : (res : Result ℕ ℕ) → is_ok res ≡ true → Allocated r s.working after old new res → Lawful (situation m s) (table after)
  lawful_after (Ok k) ok a = (granted_there r (situation m s) (agrees_sym (situation m s) r agree) k _ _ a.0).lawful
  lawful_after (Err x) ok a = absurd (cc)

  pub covers_then : (res : Result ℕ ℕ) → is_ok res ≡ true → Allocated r s.working after old new res → length after ≡ 1024
      → Covering m s old new (with_tables s s.standing after) res
  covers_then (Ok k) ok a size = (refl, size, granted_there r (situation m s) (agrees_sym (situation m s) r agree) k _ _ a.0, a.1)
  covers_then (Err x) ok a size = absurd (cc)

  pub short_else : (res : Result ℕ ℕ) → is_ok res ≡ false → Allocated r s.working after old new res → Covering m s old new s res
  short_else (Ok k) ok a = absurd (cc)
  short_else (Err x) ok a = (refl, short_there r (situation m s) (agrees_sym (situation m s) r agree) x (noted new) a.0)
