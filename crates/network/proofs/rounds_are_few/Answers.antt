use Rattle.network.proofs.Rounds.{rounds_few, rounds_within}
use Rattle.network.proofs.rounds_are_few.Goals as goal

pub returns : goal.returns
returns c = λ N k f g s q r. (rounds_few N s k f g r q, λ D w. rounds_within N s D w k f g r q)
