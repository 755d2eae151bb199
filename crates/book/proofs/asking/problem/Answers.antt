use Rattle.std.proofs.Common.{None, rules}
use Rattle.book.proofs.Empty.{zeros_low}
use Rattle.book.proofs.Noting.{agrees, small}
use Rattle.book.proofs.asking.problem.Goals as goal

pub invariant_of-problem : goal.invariant_of-problem
invariant_of-problem g c = record {
  small = small c.args.lots.now c.args.exposures.now c.map.result c.map-2.result
      (λ l h. let w = c.map.ensures.items.at l None None h in search rules) (λ e h. let w = c.map-2.ensures.items.at e None None h in search rules)
      _ c.map.ensures.items.long c.map-2.ensures.items.long c.requires.0 c.requires.1 (zeros_low 1024);
}

pub returns : goal.returns
returns g c =
    let p = c.note_terms.new.problem in
    let rest = c.note_terms.ensures.rest in
    agrees c.args.lots.now c.args.exposures.now p.lots p.exposures
    (λ l h. let w = c.map.ensures.items.at l None None h in let e = rest.0 in search rules) (λ e h. let w = c.map-2.ensures.items.at e None None h in let r = rest.1 in search rules)
    (g.B.Binder.meaning c.args.binder.now) p.admitted p.limits c.note_terms.ensures.asked
