use Rattle.std.proofs.Common.{◌+◌, ◌^◌, ◌<◌, sym, ap, ◌∙◌, subst}
use Rattle.rule.specs.Stack.{act}
use Rattle.rule.specs.Views.{code}
use Rattle.rule.proofs.Stacks.{acts_more, act_fits}
use Rattle.rule.proofs.held.Rule.ask.Goals as goal

pub loop-step-preserved : goal.loop-step-preserved
loop-step-preserved c =
    let l = c.loop-step in (
      c.run.ensures ∙ ap (act c.args.lot _) l.invariant.0 ∙ sym (acts_more c.args.lot (code c.args.self.now) l.step-index _ c.loop-step-test.true),
      subst (λ p. p < 2 ^ (l.step-index + 1)) (sym c.run.ensures) (act_fits c.args.lot _ _ l.step-index l.invariant.1),
    )
