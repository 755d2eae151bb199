-- To believe: the situation that a problem holds.

use Rattle.table.specs.Table.{Situation}
use Rattle.cover.specs.declared.problem.Problem.{Problem}
use Rattle.cover.specs.View.{situation}

abbrev pub seen : Problem → Situation
seen p = situation p.lots p.exposures p.admitted p.limits
