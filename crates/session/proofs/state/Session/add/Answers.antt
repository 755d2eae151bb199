use Rattle.std.proofs.Common.{sym, refl, ◌∙◌, arith}
use Rattle.std.proofs.lemmas.Bool.Decides.{nat_tests}
use Rattle.std.proofs.lemmas.Result.{err_from_is_err_and}
use Rattle.session.specs.Adding.Unadded.{outside, taken, unpriced}
use Rattle.session.proofs.state.Session.add.Goals as goal

pub returns-in-None-clause-cases : goal.returns-in-None-clause-cases
returns-in-None-clause-cases c = (outside (grind (arith, nat_tests, c.in-None.ensures.lookup)), refl)

pub returns-in-Some-true-clause-cases : goal.returns-in-Some-true-clause-cases
returns-in-Some-true-clause-cases c =
    let held = c.in-Some-true.ensures.lookup.3 in
    (taken (omega (arith, held.0)) (sym (held.1 _) ∙ c.in-Some-true.field-0-test), refl)

pub returns-in_err-lot-clause-cases : goal.returns-in_err-lot-clause-cases
returns-in_err-lot-clause-cases c =
    let free = c.in-Some-false.ensures.lookup.3 in
    let p = err_from_is_err_and c.from_residual.result c.from_residual.ensures.1 in
    rw (p.1, p.2) (unpriced (omega (arith, free.0)) (sym (free.1 _) ∙ c.in-Some-false.field-0-test) c.in_err-lot.ensures, refl)
