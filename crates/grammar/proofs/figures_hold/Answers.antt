use Rattle.grammar.proofs.Figured.{figured}
use Rattle.grammar.proofs.figures_hold.Goals as goal

pub returns : goal.returns
returns c = figured
