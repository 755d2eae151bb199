-- The relation over calls, once it is known whether a cause is against the call.

use Rattle.std.proofs.Common.{◌≡◌, None, sym, subst}
use Rattle.binder.specs.Meaning.{Meaning}
use Rattle.calls.specs.State.{State}
use Rattle.calls.specs.Call.{Call, Outcome, cause}
use Rattle.calls.specs.Step.{Grants, Decided, Step}

pub granted : (m : Meaning) (c : Call) (s : State) (o : Outcome) (t : State) → cause m s c ≡ None → Grants m c s o t → Step m c s o t
granted m c s o t e g = subst (λ v. Decided v m c s o t) (sym e) g
