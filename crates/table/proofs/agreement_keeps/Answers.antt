use Rattle.table.proofs.Agreement.{agreement_keeps_lem}
use Rattle.table.proofs.agreement_keeps.Goals as goal

pub returns : goal.returns
returns c = agreement_keeps_lem
