use Rattle.grammar.proofs.Joining.{precedence}
use Rattle.grammar.proofs.and_binds_closer.Goals as goal

pub returns : goal.returns
returns c = precedence
