use Rattle.table.proofs.Record.{cut, capacity_left, minimum}
use Rattle.table.proofs.record_cuts.Goals as goal

pub returns : goal.returns
returns c = λ s m x r. (cut s m x r, capacity_left s m x r, minimum s m x r)
