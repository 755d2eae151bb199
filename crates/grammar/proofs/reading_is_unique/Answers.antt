use Rattle.grammar.proofs.Unique.{one_tree, one_meaning}
use Rattle.grammar.proofs.reading_is_unique.Goals as goal

pub returns : goal.returns
returns c = record { tree = one_tree; meaning = one_meaning }
