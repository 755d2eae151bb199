use Rattle.std.proofs.Common.{◌≡◌, true, sym, ◌∙◌, subst}
use Rattle.std.proofs.lemmas.Result.{err_from_is_err_and}
use Rattle.calls.specs.Call.Call.{settle}
use Rattle.book.specs.View.{view, numbers}
use Rattle.life.specs.Turn.{made, idle}
use Rattle.life.specs.Matched.{has_slip}
use Rattle.life.proofs.Slips.{blank_note, no_meaning, slip_call, no_call, none_left, settled_over, settle_back, over}
use Rattle.life.proofs.Rests.{settled_rest, settle_kept, kept_wrote}
use Rattle.life.proofs.holder.Holder.settle.Goals as goal

pub returns-in_err-slip-clause-turn : goal.returns-in_err-slip-clause-turn
returns-in_err-slip-clause-turn c =
    let s = view c.args.self.now.book in
    let none = none_left _ _ _ c.in_err-slip.ensures.value in
    let held = subst (λ x. has_slip s x ≡ true) (sym c.take.ensures.value ∙ none.0) c.args.self.now.matched in
    let q = err_from_is_err_and c.from_residual.result c.from_residual.ensures.1 in
    λ m k. rw (q.1, q.2, none.1) (idle (λ list note. no_call s (λ n. settle n list) held))

pub invariant_of-self-in-Ok-1 : goal.invariant_of-self-in-Ok-1
invariant_of-self-in-Ok-1 c =
    let s = view c.args.self.now.book in
    let t = view c.settle.new.self in
    record { matched = subst (λ x. has_slip t x ≡ true) (sym c.take.ensures.after) (over t (settled_over no_meaning s t (numbers c.in_ok-slip.slip) c.args.list.now _ _ (c.in-Ok.ensures.step no_meaning))) }

pub invariant_of-self-in-Err : goal.invariant_of-self-in-Err
invariant_of-self-in-Err c =
    let s = view c.args.self.now.book in
    let t = view c.settle.new.self in
    let x = c.in_ok-slip.slip in
    let held = subst (λ x. has_slip s x ≡ true) (sym c.take.ensures.value ∙ c.in_ok-slip.ensures.ok_part) c.args.self.now.matched in
    record { matched = subst (λ x. has_slip t x ≡ true) (sym c.keep.ensures) (settle_back no_meaning s t x c.in-Err.slip held c.args.list.now _ c.in-Err.cause (c.in-Err.ensures.step no_meaning)) }

pub returns-in-Ok-clause-turn : goal.returns-in-Ok-clause-turn
returns-in-Ok-clause-turn c =
    let s = view c.args.self.now.book in
    let x = c.in_ok-slip.slip in
    let held = subst (λ x. has_slip s x ≡ true) (sym c.take.ensures.value ∙ c.in_ok-slip.ensures.ok_part) c.args.self.now.matched in
    let list = c.args.list.now in
    λ m k. made list blank_note (settle (numbers x) list) (slip_call s x (λ n. settle n list) held) _ _ (c.in-Ok.ensures.step m)

pub returns-in-Ok-clause-wrote : goal.returns-in-Ok-clause-wrote
returns-in-Ok-clause-wrote c = record { room = c.in-Ok.ensures.room; behind = settled_rest no_meaning (view c.args.self.now.book) (view c.settle.new.self) (numbers c.in_ok-slip.slip) c.args.list.now _ _ (c.in-Ok.ensures.step no_meaning) }

pub returns-in-Err-clause-turn : goal.returns-in-Err-clause-turn
returns-in-Err-clause-turn c =
    let s = view c.args.self.now.book in
    let x = c.in_ok-slip.slip in
    let held = subst (λ x. has_slip s x ≡ true) (sym c.take.ensures.value ∙ c.in_ok-slip.ensures.ok_part) c.args.self.now.matched in
    let list = c.args.list.now in
    λ m k. made list blank_note (settle (numbers x) list) (slip_call s x (λ n. settle n list) held) _ _ (c.in-Err.ensures.step m)

pub returns-in-Err-clause-wrote : goal.returns-in-Err-clause-wrote
returns-in-Err-clause-wrote c = kept_wrote _ (settle_kept no_meaning (view c.args.self.now.book) _ c.in_ok-slip.slip c.in-Err.slip c.args.list.now _ c.in-Err.cause (c.in-Err.ensures.step no_meaning))
