-- To believe: a book's state, and a slip's numbers, as the relation over calls speaks of them.

use Rattle.calls.specs.State.{State}
use Rattle.calls.specs.Call.{Numbers}
use Rattle.book.specs.declared.book.Book.{Book}
use Rattle.book.specs.declared.slip.Slip.{Slip}

abbrev pub view : Book → State
view b = record { lots = b.lots; exposures = b.exposures; standing = b.standing; working = b.working; number = b.number; run = b.run; in_run = b.in_run }

abbrev pub numbers : Slip → Numbers
numbers s = record { book = s.book; run = s.run }
