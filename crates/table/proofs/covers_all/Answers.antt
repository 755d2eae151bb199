use Rattle.table.proofs.Tables.{covers_all_lem}
use Rattle.table.proofs.covers_all.Goals as goal

pub returns : goal.returns
returns c = covers_all_lem
