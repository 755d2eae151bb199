use Rattle.std.proofs.Common.{◌≡◌, ℕ, arith}
use Rattle.std.proofs.lemmas.Result.{MatchResult-weaker}
use Rattle.curve.specs.Lot.Unpriced.{outside, past}
use Rattle.curve.proofs.lot.Terms.haircut.Goals as goal

pub returns-then-not-in_range : goal.returns-then-not-in_range
returns-then-not-in_range c = outside (λ p.
    let is = c.in_range.ensures.1 p in
    let not = c.if-not-in_range.true in
    let z : ◌≡◌ {A = ℕ} 0 1 = cc in omega arith)

pub returns : goal.returns
returns c =
    let within = c.in_range.ensures.0 c.if-not-in_range.false in
    MatchResult-weaker c.haircut.result c.haircut.ensures
    (λ h x. (within, x.0, x.1))
    (λ e x. rw x.0 (past within x.1))
