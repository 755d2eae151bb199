use Rattle.network.proofs.Layers.{distance, distance_low, distances}
use Rattle.network.proofs.layers_exist.Goals as goal

pub returns : goal.returns
returns c = λ N f s. (distance N f, distances N f s, λ v _. distance_low N f v)
