use Rattle.network.proofs.Cut.{no_walk_maximum}
use Rattle.network.proofs.Maximum.{maximum_no_walk}
use Rattle.network.proofs.maximum_exactly.Goals as goal

pub returns : goal.returns
returns c = λ N f s q. (no_walk_maximum N f s q, maximum_no_walk N f s q)
