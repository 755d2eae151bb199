use Rattle.calls.proofs.Causes.{smallest_cause}
use Rattle.calls.proofs.smallest_cause_is_given.Goals as goal

pub returns : goal.returns
returns c = smallest_cause
