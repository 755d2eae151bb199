use Rattle.std.proofs.Common.{[], refl}
use Rattle.std.proofs.lemmas.Result.{err_from_is_err_and}
use Rattle.calls.specs.Call.Call.{withdraw}
use Rattle.book.specs.View.{view}
use Rattle.life.specs.Turn.{made}
use Rattle.life.proofs.Slips.{blank_note, no_meaning, step_keeps, still_held}
use Rattle.life.proofs.holder.Holder.withdraw.Goals as goal

pub invariant_of-self : goal.invariant_of-self
invariant_of-self c =
    let b = c.args.self.now in
    record { matched = still_held (view b.book) (view c.withdraw.new.self) b.slip (step_keeps no_meaning (withdraw c.args.place) (view b.book) (view c.withdraw.new.self) _ (c.withdraw.ensures no_meaning)) b.matched }

pub returns-in_err-withdraw-clause-turn : goal.returns-in_err-withdraw-clause-turn
returns-in_err-withdraw-clause-turn c =
    let q = err_from_is_err_and c.from_residual.result c.from_residual.ensures.1 in
    λ m k. rw (q.1, q.2) (made [] blank_note (withdraw c.args.place) refl _ _ (c.in_err-withdraw.ensures m))

pub returns-clause-turn : goal.returns-clause-turn
returns-clause-turn c = λ m k. made [] blank_note (withdraw c.args.place) refl _ _ (c.in_ok-withdraw.ensures m)
