use Rattle.std.proofs.Common.{◌≡◌, ◌^◌, ◌<◌, take}
use Rattle.rule.specs.Stack.{acts}
use Rattle.rule.specs.Views.{code}
use Rattle.rule.proofs.held.Rule.ask.Given as goal

abbrev pub invariant-loop-step : goal.invariant-loop-step
invariant-loop-step l = (l.answers ≡ acts l.lot (take l.step-index (code l.self)) 0) × (l.answers < 2 ^ l.step-index)
