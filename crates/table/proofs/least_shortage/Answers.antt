use Rattle.table.proofs.Maximum.{maximum_shortage}
use Rattle.table.proofs.least_shortage.Goals as goal

pub returns : goal.returns
returns c = maximum_shortage
