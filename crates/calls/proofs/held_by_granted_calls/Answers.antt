use Rattle.calls.proofs.Histories.{told_by_calls}
use Rattle.calls.proofs.held_by_granted_calls.Goals as goal

pub returns : goal.returns
returns c = told_by_calls
