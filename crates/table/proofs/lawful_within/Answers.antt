use Rattle.table.proofs.Tables.{lawful_within_lem, within_lawful}
use Rattle.table.proofs.lawful_within.Goals as goal

pub returns : goal.returns
returns c = λ s p. (lawful_within_lem s p, within_lawful s p)
