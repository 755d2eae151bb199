use Rattle.network.proofs.Cut.{max_min}
use Rattle.network.proofs.max_flow_min_cut.Goals as goal

pub returns : goal.returns
returns c = max_min
