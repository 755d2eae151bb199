use Rattle.table.proofs.Record.{record_binds_lem}
use Rattle.table.proofs.record_binds.Goals as goal

pub returns : goal.returns
returns c = record_binds_lem
