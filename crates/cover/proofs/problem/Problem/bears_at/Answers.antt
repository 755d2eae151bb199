use Rattle.std.proofs.Common.{sym, ap, ◌∙◌, arith}
use Rattle.table.specs.Drawn.{cap_of}
use Rattle.table.specs.Drawn.Arc.{offer, bound}
use Rattle.table.proofs.Arcs.{arc_supply, arc_offers, arc_bounds, arc_demands}
use Rattle.cover.specs.Seen.{seen}
use Rattle.cover.proofs.problem.Problem.bears_at.Goals as goal

pub returns-then-k-lt-OFFERS : goal.returns-then-k-lt-OFFERS
returns-then-k-lt-OFFERS c = c.supply_bears.ensures ∙ ap (cap_of (seen c.args.self.now)) (sym (arc_supply c.args.k (omega arith)))

pub returns-then-k-lt-BOUNDS : goal.returns-then-k-lt-BOUNDS
returns-then-k-lt-BOUNDS c = c.offer_bears.ensures ∙ ap (cap_of (seen c.args.self.now)) {x = offer c.of.result.lot c.of.result.exposure} (let a = arc_offers c.args.k (omega arith) (omega arith) in cc)

pub returns-then-k-lt-DEMANDS : goal.returns-then-k-lt-DEMANDS
returns-then-k-lt-DEMANDS c = c.bound_bears.ensures ∙ ap (cap_of (seen c.args.self.now)) {x = bound c.of-then-k-lt-DEMANDS.result.lot c.of-then-k-lt-DEMANDS.result.exposure} (let a = arc_bounds c.args.k (omega arith) (omega arith) in cc)

pub returns-else-k-lt-DEMANDS : goal.returns-else-k-lt-DEMANDS
returns-else-k-lt-DEMANDS c = c.demand_bears.ensures ∙ ap (cap_of (seen c.args.self.now)) (sym (arc_demands c.args.k (omega arith)))
