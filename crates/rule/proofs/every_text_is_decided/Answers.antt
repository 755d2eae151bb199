use Rattle.rule.proofs.Deciding.{decided}
use Rattle.rule.proofs.every_text_is_decided.Goals as goal

pub returns : goal.returns
returns c = decided
