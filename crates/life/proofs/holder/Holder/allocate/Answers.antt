use Rattle.std.proofs.Common.{◌≡◌, true, [], replicate, sym, ap, ◌∙◌, subst}
use Rattle.std.specs.Option.{option_copied}
use Rattle.std.proofs.lemmas.Result.{err_from_is_err_and}
use Rattle.cover.specs.declared.record.Record.{Record}
use Rattle.calls.specs.Call.Call.{allocate}
use Rattle.book.specs.View.{view, numbers}
use Rattle.life.specs.Turn.{made, idle}
use Rattle.life.specs.Matched.{has_slip}
use Rattle.life.proofs.Slips.{slip_call, no_call, none_left, allocation_told, reported_none}
use Rattle.life.proofs.holder.Holder.allocate.Goals as goal

abbrev zeros : Record
zeros = record { exposures = 0; lots = 0; issuers = replicate 16 0 }

pub returns-in_err-slip-clause-turn : goal.returns-in_err-slip-clause-turn
returns-in_err-slip-clause-turn g c =
    let s = view c.args.self.now.book in
    let none = none_left _ _ _ c.in_err-slip.ensures.value in
    let held = subst (λ x. has_slip s x ≡ true) (sym c.as_ref.ensures.value ∙ ap option_copied none.0) c.args.self.now.matched in
    let q = err_from_is_err_and c.from_residual.result c.from_residual.ensures.1 in
    λ k. rw (q.1, q.2, none.1) (idle (λ list note. no_call s (λ n. allocate n note) held))

pub returns-clause-none : goal.returns-clause-none
returns-clause-none g c = rw c.report.ensures (reported_none c.allocate-answer.result _)

pub returns-clause-turn : goal.returns-clause-turn
returns-clause-turn g c =
    let s = view c.args.self.now.book in
    let x = c.in_ok-slip.slip.now in
    let held = subst (λ x. has_slip s x ≡ true) (sym c.as_ref.ensures.value ∙ ap option_copied c.in_ok-slip.ensures.ok_part) c.args.self.now.matched in
    λ k. rw c.report.ensures (allocation_told _ k _ s _ (numbers x) _ c.allocate-answer.result
    (made [] zeros (allocate (numbers x) zeros) (slip_call s x (λ n. allocate n zeros) held) _ _ c.allocate-answer.ensures))
