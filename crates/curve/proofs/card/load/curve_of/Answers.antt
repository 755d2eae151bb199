use Rattle.std.proofs.Common.{◌≡◌, rules, arith}
use Rattle.std.proofs.lemmas.Result.{err_from_is_err_and, MatchResult-at_ok, MatchResult-at_err}
use Rattle.curve.specs.declared.card.CardFault.TheVariants.{Page}
use Rattle.curve.specs.Card.Unloaded.{page, outside}
use Rattle.curve.proofs.Cards.{mapped}
use Rattle.curve.proofs.card.load.curve_of.Goals as goal

pub returns-in_err-curve : goal.returns-in_err-curve
returns-in_err-curve c =
    let p = err_from_is_err_and c.from_residual.result c.from_residual.ensures.1 in
    let f = MatchResult-at_err _ _ _ c.in_err-curve.was (mapped c.from_page.result c.map_err.result _ _ _ c.from_page.ensures c.map_err.ensures.cases) in
    let e : c.in_err-curve.field-0.0 ≡ Page f.0 c.args.class = search rules in
    rw (p.1, p.2, e) (page f.1)

pub returns-then-class-gt7 : goal.returns-then-class-gt7
returns-then-class-gt7 c =
    outside _ (MatchResult-at_ok _ _ _ c.in_ok-curve.was (mapped c.from_page.result c.map_err.result _ _ _ c.from_page.ensures c.map_err.ensures.cases)) (omega arith)
