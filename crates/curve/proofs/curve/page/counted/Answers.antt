use Rattle.std.proofs.Common.{◌≡◌, ◌∙◌, arith}
use Rattle.std.proofs.lemmas.Result.{err_from_is_err_and}
use Rattle.curve.proofs.Shapes.{misshapen}
use Rattle.curve.proofs.curve.page.counted.Goals.{then-count-eq0-via-then-count-eq0, then-count-eq0-via-else-count-eq0+then-count-gt16, then-count-eq0-via-else-count-eq0+else-count-gt16+then-page-count}
use Rattle.curve.proofs.curve.page.counted.Goals as goal

pub returns-in_err-byte : goal.returns-in_err-byte
returns-in_err-byte c =
    let p = err_from_is_err_and c.from_residual.result c.from_residual.ensures.1 in
    rw (p.1, p.2) (misshapen c.args.page.now (λ n l h f s. let e = rw c.new.ensures.0 at c.in_err-byte.ensures.cases.1 in omega (arith, e, c.new.ensures.1)))

pub returns-then-count-eq0 : goal.returns-then-count-eq0
returns-then-count-eq0 c = misshapen c.args.page.now (λ n l h f s.
    let first = rw (c.new.ensures.0, c.new.ensures.1) at c.in_ok-byte.ensures.cases.0 in
    let count : c.from-count.result ≡ n = c.from-count.ensures ∙ (first ∙ f) in
    elim c.then-count-eq0.branch [
      | then-count-eq0-via-then-count-eq0 w ↦ omega arith
      | then-count-eq0-via-else-count-eq0+then-count-gt16 w ↦ omega arith
      | then-count-eq0-via-else-count-eq0+else-count-gt16+then-page-count w ↦ omega arith
    ])
