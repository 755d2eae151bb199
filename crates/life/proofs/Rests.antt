-- Behind the instructions that a call writes, the list that it was lent is as it was; a refusal leaves all of it.

use Rattle.std.proofs.Common.{◌≡◌, ℕ, List, length, drop, Some, None, Err, Option, refl, ap, arith}
use Rattle.std.proofs.lemmas.List.{drop_at}
use Rattle.cause.specs.declared.Cause.{Cause}
use Rattle.binder.specs.Meaning.{Meaning}
use Rattle.calls.specs.declared.Instruction.{Instruction}
use Rattle.calls.specs.State.{State}
use Rattle.calls.specs.Instructions.{changes, closings, written}
use Rattle.calls.specs.Call.{Back, Numbers, cause}
use Rattle.calls.specs.Call.Call.{close, settle}
use Rattle.calls.specs.Call.Outcome.{refused, closed, settled}
use Rattle.calls.specs.Step.{Step, Decided}
use Rattle.book.specs.View.{numbers}
use Rattle.book.specs.declared.slip.Slip.{Slip}
use Rattle.life.specs.Turn.{Wrote}
use Rattle.life.specs.declared.order.Refused.{Refused}
use Rattle.life.proofs.Slips.{refused_keeps}

written_rest : (front list new : List Instruction) (n : ℕ) → n ≡ length front → new ≡ written front list → drop n new ≡ drop n list
written_rest front list new n is new_is = rw (is, new_is) (drop_at front (drop (length front) list) (length front) refl)

module _ (m : Meaning) (s t : State) where
  pub closed_rest : (p : ℕ) (list new : List Instruction) (n : ℕ) → Step m (close p list) s (closed n new) t → drop n new ≡ drop n list
  closed_rest p list new n = decided (cause m s (close p list)) where
    decided : (v : Option Cause) → Decided v m (close p list) s (closed n new) t → drop n new ≡ drop n list
    decided (Some e) (eo, et) = absurd (cc)
    decided None (eo, et) = written_rest (closings s.standing p 64) list new n (cc) (cc)

  pub settled_rest : (x : Numbers) (list new : List Instruction) (n : ℕ) → Step m (settle x list) s (settled n new) t → drop n new ≡ drop n list
  settled_rest x list new n = decided (cause m s (settle x list)) where
    decided : (v : Option Cause) → Decided v m (settle x list) s (settled n new) t → drop n new ≡ drop n list
    decided (Some e) (eo, et) = absurd (cc)
    decided None (eo, et) = written_rest (changes s.standing s.working 1024) list new n (cc) (cc)

  pub close_kept : (p : ℕ) (list new : List Instruction) (e : Cause) → Step m (close p list) s (refused e (record { slip = None; list = new; note = None })) t → new ≡ list
  close_kept p list new e step = ap (λ (b : Back). b.list) (refused_keeps m (close p list) s t e _ step).1

  pub settle_kept : (x y : Slip) (list new : List Instruction) (e : Cause)
      → Step m (settle (numbers x) list) s (refused e (record { slip = Some (numbers y); list = new; note = None })) t → new ≡ list
  settle_kept x y list new e step = ap (λ (b : Back). b.list) (refused_keeps m (settle (numbers x) list) s t e _ step).1

-- what is refused wrote nothing
pub kept_wrote : (e : Refused) {list new : List Instruction} → new ≡ list → Wrote (Err e) list new
kept_wrote e p = record { room = omega arith; behind = ap (drop 0) p }
