use Rattle.std.proofs.Common.{[], refl}
use Rattle.std.proofs.lemmas.Result.{err_from_is_err_and}
use Rattle.calls.specs.Call.Call.{open_exposure}
use Rattle.book.specs.View.{view}
use Rattle.book.specs.Answers.{opening}
use Rattle.life.specs.Turn.{made}
use Rattle.life.proofs.Slips.{blank_note, step_keeps, still_held}
use Rattle.life.proofs.holder.Holder.open.Goals as goal

pub invariant_of-self : goal.invariant_of-self
invariant_of-self g c =
    let b = c.args.self.now in
    record { matched = still_held (view b.book) (view c.open.new.self) b.slip (step_keeps (g.B.Binder.meaning c.args.binder.now) (open_exposure c.args.place c.args.amount c.args.schedule) (view b.book) (view c.open.new.self) (opening c.open.result) c.open.ensures) b.matched }

pub returns-in_err-open-clause-turn : goal.returns-in_err-open-clause-turn
returns-in_err-open-clause-turn g c =
    let q = err_from_is_err_and c.from_residual.result c.from_residual.ensures.1 in
    λ k. rw (q.1, q.2) (made [] blank_note (open_exposure c.args.place c.args.amount c.args.schedule) refl _ _ c.in_err-open.ensures)

pub returns-clause-turn : goal.returns-clause-turn
returns-clause-turn g c = λ k. made [] blank_note (open_exposure c.args.place c.args.amount c.args.schedule) refl _ _ c.in_ok-open.ensures
