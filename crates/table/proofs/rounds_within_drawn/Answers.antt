use Rattle.table.proofs.Reach.{rounds_drawn}
use Rattle.table.proofs.rounds_within_drawn.Goals as goal

pub returns : goal.returns
returns c = rounds_drawn
