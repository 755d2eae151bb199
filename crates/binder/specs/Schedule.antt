-- To believe: what a rule schedule means, and what loading one does. What texts mean and where they are at fault is
-- defined in the crate grammar.

use Rattle.std.specs.Prelude.{◌≡◌, ℕ, ◌<◌, ◌≤◌, List, Result, MatchResult}
use Rattle.cause.specs.Numbers.{number as listed}
use Rattle.cause.specs.declared.Cause.TheVariants.{RangePassed}
use Rattle.grammar.specs.Grammar.{Faultless, Least}
use Rattle.rule.specs.Says.{says, Accepted}
use Rattle.rule.specs.declared.held.Rule.{Rule}
use Rattle.binder.specs.Meaning.{Meaning, single}
use Rattle.binder.specs.declared.fault.ScheduleFault.{ScheduleFault}
use Rattle.binder.specs.declared.single.Single.{Single}

-- a rule, and a share
abbrev pub RuleSchedule : Type 0
RuleSchedule = Single Rule

-- a lot passes if the rule says yes to it
abbrev pub schedule_meaning : RuleSchedule → Meaning
schedule_meaning s = single (says s.criteria) s.share.parts

-- the text has no fault, the share is in range, and the schedule has both
pub record Scheduled (share : ℕ) (text : List ℕ) (after : RuleSchedule) : Type 0 where
  pub share_in_range : share ≤ 10000
  pub share_is : after.share.parts ≡ share
  pub rule_is : Accepted text (says after.criteria)

-- the least fault of the text, or of a text without fault the share: with the label
pub data Refused (label share : ℕ) (text : List ℕ) (e : ScheduleFault) : Type 0 where
  fault : Least text (listed e.cause) e.place → e.label ≡ label → Refused label share text e
  range : Faultless text → 10000 < share → e ≡ record { cause = RangePassed; place = 0; label = label } → Refused label share text e

-- what is refused leaves the schedule as it was
abbrev pub Scheduling : ℕ → ℕ → List ℕ → RuleSchedule → RuleSchedule → Result (Unit {0}) ScheduleFault → Type 0
Scheduling label share text before after r = MatchResult r (λ _. Scheduled share text after) (λ e. Refused label share text e × (after ≡ before))
