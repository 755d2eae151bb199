use Rattle.std.proofs.Common.{◌≡◌, true, [], sym, refl, subst}
use Rattle.std.proofs.lemmas.Result.{err_from_is_err_and}
use Rattle.calls.specs.Call.Call.{begin}
use Rattle.book.specs.View.{view}
use Rattle.life.specs.Turn.{made}
use Rattle.life.specs.Matched.{has_slip}
use Rattle.life.proofs.Slips.{blank_note, no_meaning, no_slip, begun_held, refused_keeps}
use Rattle.life.proofs.holder.Holder.begin.Goals as goal

pub keep-requires : goal.keep-requires
keep-requires c = no_slip no_meaning (view c.args.self.now.book) _ c.args.self.now.slip _ c.args.self.now.matched (c.in_ok-slip.ensures no_meaning)

pub invariant_of-self : goal.invariant_of-self
invariant_of-self c =
    let b = c.args.self.now in
    let same = (refused_keeps no_meaning begin (view b.book) (view c.begin.new.self) _ _ (c.in_err-slip.ensures no_meaning)).0 in
    record { matched = subst (λ t. has_slip t b.slip ≡ true) (sym same) b.matched }

pub returns-in_err-slip-clause-turn : goal.returns-in_err-slip-clause-turn
returns-in_err-slip-clause-turn c =
    let q = err_from_is_err_and c.from_residual.result c.from_residual.ensures.1 in
    λ m k. rw (q.1, q.2) (made [] blank_note begin refl _ _ (c.in_err-slip.ensures m))

pub invariant_of-self-2 : goal.invariant_of-self-2
invariant_of-self-2 c =
    let t = view c.begin.new.self in
    record { matched = subst (λ x. has_slip t x ≡ true) (sym c.keep.ensures) (begun_held no_meaning (view c.args.self.now.book) t c.in_ok-slip.slip (c.in_ok-slip.ensures no_meaning)) }

pub returns-clause-turn : goal.returns-clause-turn
returns-clause-turn c = λ m k. rw c.run-run.ensures (made [] blank_note begin refl _ _ (c.in_ok-slip.ensures m))
