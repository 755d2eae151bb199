use Rattle.network.proofs.Rounds.{farther}
use Rattle.network.proofs.round_takes_sink_farther.Goals as goal

pub returns : goal.returns
returns c = farther
