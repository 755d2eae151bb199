-- To believe: nothing that a call promises. A session holds the slip of its book's open run, and none where no run is open.

use Rattle.std.specs.Prelude.{◌≡◌, Bool, true, not, Some, None, Option}
use Rattle.calls.specs.State.{State}
use Rattle.calls.specs.Call.{own}
use Rattle.book.specs.View.{view, numbers}
use Rattle.book.specs.declared.book.Book.{Book}
use Rattle.book.specs.declared.slip.Slip.{Slip}

abbrev pub has_slip : State → Option Slip → Bool
has_slip s None = not s.in_run
has_slip s (Some x) = own s (numbers x)

abbrev pub Matched : Book → Option Slip → Type 0
Matched b s = has_slip (view b) s ≡ true
