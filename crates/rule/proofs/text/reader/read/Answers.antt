use Rattle.std.proofs.Common.{eqb, length, sym, refl, ◌∙◌, subst, arith}
use Rattle.std.proofs.lemmas.Result.{err_from_is_err_and}
use Rattle.std.proofs.lemmas.Bool.{and_parts, not-true, not-false, eqb-true, ltb-true, ltb-false}
use Rattle.rule.specs.Reads.{ends}
use Rattle.rule.specs.Views.{waiting}
use Rattle.rule.proofs.Passing.{least_long}
use Rattle.rule.proofs.Reading.{Right, Judged, refused, let_on, reading_none, reading_more, room, judged, allowed_if, bad_end, granted}
use Rattle.rule.proofs.text.reader.read.Goals as goal

pub returns-in_err-refuse_if : goal.returns-in_err-refuse_if
returns-in_err-refuse_if c =
    let t = c.args.text.now in
    let p = err_from_is_err_and c.from_residual.result c.from_residual.ensures.1 in
    rw (p.1, p.2) (subst (Right t) (sym c.in_err-refuse_if.ensures) (refused t _ _ _ (λ e. least_long t (ltb-true 1024 (length t) (sym c.is_too_long.ensures ∙ e)))))

pub loop-place-init : goal.loop-place-init
loop-place-init c =
    reading_none _ _ _ _ _ _ _ (ltb-false 1024 (length c.args.text.now) (sym c.is_too_long.ensures ∙ let_on _ _ _ c.in_ok-refuse_if.ensures))
    c.new-reader.ensures.place c.new-reader.ensures.count.0 c.new-reader.ensures.count.1

pub take-requires-clause-room : goal.take-requires-clause-room
take-requires-clause-room c = room _ _ _ _ _ _ _ _ c.loop-place.invariant

pub returns-in_err-take : goal.returns-in_err-take
returns-in_err-take c =
    let r = c.loop-place.reader in
    let p = err_from_is_err_and c.from_residual-in_err-take.result c.from_residual-in_err-take.ensures.1 in
    rw (p.1, p.2) (subst (Judged c.args.text.now r.mode _ (length (waiting r.outer)) r.count) c.in_err-take.ensures
    (judged _ _ _ _ _ _ _ _ c.loop-place.invariant c.loop-place-test.true _ refl))

pub loop-place-preserved : goal.loop-place-preserved
loop-place-preserved c =
    let r = c.loop-place.reader in
    let a = c.in_ok-take.ensures in
    reading_more _ _ _ _ _ _ _ _ c.loop-place.invariant c.loop-place-test.true _ refl
    (allowed_if r.mode _ (length (waiting r.outer)) r.count c.loop-place.place r.digit a.allowed)
    _ _ _ _ _ _ a.moved a.counted a.number

pub returns-in_err-refuse_if-2 : goal.returns-in_err-refuse_if-2
returns-in_err-refuse_if-2 c =
    let t = c.args.text.now in
    let p = err_from_is_err_and c.from_residual-in_err-refuse_if-2.result c.from_residual-in_err-refuse_if-2.ensures.1 in
    rw (p.1, p.2) (subst (Right t) (sym c.in_err-refuse_if-2.ensures) (refused t _ _ _ (λ e.
    bad_end _ _ _ _ _ _ _ _ c.loop-place.invariant (omega (arith, c.loop-place-test.false)) (sym c.may_end.ensures ∙ not-true _ e))))

pub conclude-requires-clause-room : goal.conclude-requires-clause-room
conclude-requires-clause-room c = omega (arith, room _ _ _ _ _ _ _ _ c.loop-place.invariant, c.loop-place.invariant.few)

pub returns : goal.returns
returns c =
    let r = c.loop-place.reader in
    let p = and_parts (ends r.mode) (eqb (length (waiting r.outer)) 0) (sym c.may_end.ensures ∙ not-false _ (let_on _ _ _ c.in_ok-refuse_if-2.ensures)) in
    granted _ _ _ _ _ _ _ _ c.loop-place.invariant (omega (arith, c.loop-place-test.false)) _ (eqb-true (length (waiting r.outer)) 0 p.1) c.conclude.ensures
