use Rattle.network.proofs.Layers.{layers_distances}
use Rattle.network.proofs.layers_are_distances.Goals as goal

pub returns : goal.returns
returns c = layers_distances
