use Rattle.table.proofs.Maximum.{covered_at_maximum_lem, maximum_covers}
use Rattle.table.proofs.covered_at_maximum.Goals as goal

pub returns : goal.returns
returns c = λ s f m. (covered_at_maximum_lem s f m, maximum_covers s f m)
