use Rattle.table.proofs.Paths.{paths_add_up_lem}
use Rattle.table.proofs.paths_add_up.Goals as goal

pub returns : goal.returns
returns c = paths_add_up_lem
