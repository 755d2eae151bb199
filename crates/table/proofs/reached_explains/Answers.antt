use Rattle.table.proofs.Record.{reached_explains_lem}
use Rattle.table.proofs.reached_explains.Goals as goal

pub returns : goal.returns
returns c = reached_explains_lem
