use Rattle.network.proofs.Rounds.{gains}
use Rattle.network.proofs.round_gains.Goals as goal

pub returns : goal.returns
returns c = gains
