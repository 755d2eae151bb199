use Rattle.std.proofs.Common.{◌≡◌, true, [], sym, ◌∙◌, subst}
use Rattle.std.proofs.lemmas.Result.{err_from_is_err_and}
use Rattle.calls.specs.Call.Call.{abandon}
use Rattle.book.specs.View.{view, numbers}
use Rattle.life.specs.Turn.{made, idle}
use Rattle.life.specs.Matched.{has_slip}
use Rattle.life.proofs.Slips.{blank_note, no_meaning, slip_call, no_call, none_left, abandon_ends, never_stale, over}
use Rattle.life.proofs.holder.Holder.abandon.Goals as goal

pub returns-in_err-slip-clause-turn : goal.returns-in_err-slip-clause-turn
returns-in_err-slip-clause-turn c =
    let s = view c.args.self.now.book in
    let none = none_left _ _ _ c.in_err-slip.ensures.value in
    let held = subst (λ x. has_slip s x ≡ true) (sym c.take.ensures.value ∙ none.0) c.args.self.now.matched in
    let q = err_from_is_err_and c.from_residual.result c.from_residual.ensures.1 in
    λ m k. rw (q.1, q.2, none.1) (idle (λ list note. no_call s (λ n. abandon n) held))

pub invariant_of-self-2 : goal.invariant_of-self-2
invariant_of-self-2 c =
    let s = view c.args.self.now.book in
    let t = view c.abandon.new.self in
    let held = subst (λ x. has_slip s x ≡ true) (sym c.take.ensures.value ∙ c.in_ok-slip.ensures.ok_part) c.args.self.now.matched in
    record { matched = subst (λ x. has_slip t x ≡ true) (sym c.take.ensures.after) (over t (abandon_ends no_meaning s t c.in_ok-slip.slip held c.abandon.result (c.abandon.ensures no_meaning))) }

pub unreachable-requires : goal.unreachable-requires
unreachable-requires c =
    let s = view c.args.self.now.book in
    let held = subst (λ x. has_slip s x ≡ true) (sym c.take.ensures.value ∙ c.in_ok-slip.ensures.ok_part) c.args.self.now.matched in
    never_stale no_meaning s _ c.in_ok-slip.slip held _ _ (c.in-Err.ensures no_meaning)

pub returns-clause-turn : goal.returns-clause-turn
returns-clause-turn c =
    let s = view c.args.self.now.book in
    let held = subst (λ x. has_slip s x ≡ true) (sym c.take.ensures.value ∙ c.in_ok-slip.ensures.ok_part) c.args.self.now.matched in
    λ m k. made [] blank_note (abandon (numbers c.in_ok-slip.slip)) (slip_call s c.in_ok-slip.slip (λ n. abandon n) held) _ _ (c.in-Ok.ensures m)
