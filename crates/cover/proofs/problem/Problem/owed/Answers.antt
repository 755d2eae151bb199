use Rattle.std.proofs.Common.{None, ◌∙◌, rules}
use Rattle.cover.proofs.Totals.{amounts_low, amounts_owed}
use Rattle.cover.proofs.problem.Problem.owed.Goals as goal

pub total-requires : goal.total-requires
total-requires c = amounts_low c.args.self.now c.map.result c.map.ensures.items.long (λ e h. let w = c.map.ensures.items.at e None 0 h in search rules)

pub returns : goal.returns
returns c = c.total.ensures ∙ amounts_owed c.args.self.now c.map.result c.map.ensures.items.long (λ e h. let w = c.map.ensures.items.at e None 0 h in search rules)
