-- To believe: what an allocation does to the table and the record, and what it answers.

use Rattle.std.specs.Prelude.{◌≡◌, ℕ, List, Ok, Err, Result}
use Rattle.words.specs.Word.{bit}
use Rattle.table.specs.Table.{Situation}
use Rattle.table.specs.Record.{Marks}
use Rattle.table.specs.Outcome.{Granted, Short}
use Rattle.cover.specs.declared.record.Record.{Record}
use Rattle.cover.specs.View.{at, pledge}

-- the marks in a record's words: bit p for the place p
abbrev pub noted : Record → Marks
noted r = record { exposures = bit r.exposures; lots = bit r.lots; issuers = λ e t. bit (at r.issuers e) t }

-- Granted by k rounds: the table after is lawful and covers, k rounds lead to it from the start that the table before gives, and the
-- record is as it was. Or short by x: no lawful table covers, x is the least shortage, the record explains it, and the table is as
-- it was.
abbrev pub Allocated : Situation → List ℕ → List ℕ → Record → Record → Result ℕ ℕ → Type 0
Allocated s before after old new (Ok k) = Granted s k (pledge before) (pledge after) × (new ≡ old)
Allocated s before after old new (Err x) = Short s x (noted new) × (after ≡ before)
