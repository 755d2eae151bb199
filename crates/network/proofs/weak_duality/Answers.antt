use Rattle.network.proofs.Duality.{weak_duality_lem}
use Rattle.network.proofs.weak_duality.Goals as goal

pub returns : goal.returns
returns c = λ N f S s q k. weak_duality_lem N f S q k s
