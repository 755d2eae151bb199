use Rattle.network.proofs.Same.{same_flow, same_value, same_maximum, same_round, same_rounds}
use Rattle.network.proofs.same_networks.Goals as goal

pub returns : goal.returns
returns c = λ N M f g e h. (same_flow N M e f g h, same_value N M e f g h, same_maximum N M e f g h, λ f' g' h'. same_round N M e f g f' g' h h', λ k f' g' h'. same_rounds N M e k f g f' g' h h')
