use Rattle.std.proofs.Common.{refl}
use Rattle.std.proofs.lemmas.Result.{err_from_is_err_and}
use Rattle.calls.specs.Call.Call.{close}
use Rattle.book.specs.View.{view}
use Rattle.life.specs.Turn.{made}
use Rattle.life.proofs.Slips.{blank_note, no_meaning, step_keeps, still_held}
use Rattle.life.proofs.Rests.{closed_rest, close_kept, kept_wrote}
use Rattle.life.proofs.holder.Holder.close.Goals as goal

pub invariant_of-self : goal.invariant_of-self
invariant_of-self c =
    let b = c.args.self.now in
    record { matched = still_held (view b.book) (view c.close.new.self) b.slip (step_keeps no_meaning (close c.args.place c.args.list.now) (view b.book) (view c.close.new.self) _ (c.close.ensures.step no_meaning)) b.matched }

pub returns-in_err-count-clause-turn : goal.returns-in_err-count-clause-turn
returns-in_err-count-clause-turn c =
    let q = err_from_is_err_and c.from_residual.result c.from_residual.ensures.1 in
    λ m k. rw (q.1, q.2) (made c.args.list.now blank_note (close c.args.place c.args.list.now) refl _ _ (c.in_err-count.ensures.step m))

pub returns-in_err-count-clause-wrote : goal.returns-in_err-count-clause-wrote
returns-in_err-count-clause-wrote c =
    let q = err_from_is_err_and c.from_residual.result c.from_residual.ensures.1 in
    rw q.1 (kept_wrote _ (close_kept no_meaning (view c.args.self.now.book) _ c.args.place c.args.list.now _ _ (c.in_err-count.ensures.step no_meaning)))

pub returns-clause-turn : goal.returns-clause-turn
returns-clause-turn c = λ m k. made c.args.list.now blank_note (close c.args.place c.args.list.now) refl _ _ (c.in_ok-count.ensures.step m)

pub returns-clause-wrote : goal.returns-clause-wrote
returns-clause-wrote c = record { room = c.in_ok-count.ensures.room; behind = closed_rest no_meaning (view c.args.self.now.book) _ c.args.place c.args.list.now _ _ (c.in_ok-count.ensures.step no_meaning) }
