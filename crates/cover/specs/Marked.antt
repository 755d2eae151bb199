-- To believe: nothing that a call promises. The marks that the nodes which a search reached give.

use Rattle.std.specs.Prelude.{nat_lt}
use Rattle.table.specs.Record.{Marks, marks_of}
use Rattle.cover.specs.declared.note.Reached.{Reached}
use Rattle.cover.specs.View.{at}
use Rattle.cover.specs.Picture.{pictured}

abbrev pub marked : Reached → Marks
marked r = marks_of (pictured r.drawn.now) (λ v. nat_lt 0 (at r.mark.now v))
