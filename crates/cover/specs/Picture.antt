-- To believe: nothing that a call promises. What a drawn network shows: the situation of its problem, and the lots of each slot.

use Rattle.std.specs.Prelude.{ℕ, ◌+◌, ◌*◌}
use Rattle.table.specs.Table.{Situation}
use Rattle.cover.specs.declared.drawn.Drawn.{Drawn}
use Rattle.cover.specs.View.{at}
use Rattle.cover.specs.Seen.{seen}

abbrev pub pictured : Drawn → Situation
pictured d = seen d.problem.now

abbrev pub count_of : Drawn → ℕ → ℕ
count_of d = at d.counts

abbrev pub member_of : Drawn → ℕ → ℕ → ℕ
member_of d t i = at d.members (t * 64 + i)
