use Rattle.std.proofs.Common.{rules}
use Rattle.std.proofs.lemmas.Result.{err_from_is_err_and}
use Rattle.curve.proofs.Shapes.{page_of, at_month, at_haircut}
use Rattle.curve.proofs.curve.Curve.of_points.Goals as goal

pub returns-in_err-refuse_first : goal.returns-in_err-refuse_first
returns-in_err-refuse_first c =
    let p = err_from_is_err_and c.from_residual-in_err-refuse_first.result c.from_residual-in_err-refuse_first.ensures.1 in
    let e = c.in_err-refuse_first.ensures in
    let n = c.requires in
    let page = page_of c.args.page.now c.args.count c.in_ok-points.points n.0 n.1 n.2 n.3 c.in_ok-points.ensures in
    rw (p.1, p.2) (at_month c.args.page.now _ _ _ page e.0 (record { below = e.1; passes = search rules; first = λ j l. let q = e.3 j l in search rules }))

pub returns-in_err-refuse_first-2 : goal.returns-in_err-refuse_first-2
returns-in_err-refuse_first-2 c =
    let p = err_from_is_err_and c.from_residual-in_err-refuse_first-2.result c.from_residual-in_err-refuse_first-2.ensures.1 in
    let e = c.in_err-refuse_first-2.ensures in
    let n = c.requires in
    let page = page_of c.args.page.now c.args.count c.in_ok-points.points n.0 n.1 n.2 n.3 c.in_ok-points.ensures in
    rw (p.1, p.2) (at_haircut c.args.page.now _ _ _ page (λ j l. let q = c.in_ok-refuse_first.ensures j l in search rules) e.0 (record { below = e.1; passes = search rules; first = λ j l. let q = e.3 j l in search rules }))

pub invariant_of-result : goal.invariant_of-result
invariant_of-result c = record {
  some = (c.requires.1, c.requires.2);
  rising = λ j l. let q = c.in_ok-refuse_first.ensures j l in search rules;
  falling = λ j l. let q = c.in_ok-refuse_first-2.ensures j l in search rules;
}
