-- No call changes how many places a book has.

use Rattle.std.proofs.Common.{◌≡◌, ℕ, zero, suc, ◌+◌, ◌*◌, List, length, Some, None, Option, refl, ◌∙◌, inl, inr}
use Rattle.std.proofs.lemmas.List.{length-set, length-replicate}
use Rattle.cause.specs.declared.Cause.{Cause}
use Rattle.binder.specs.Meaning.{Meaning}
use Rattle.curve.specs.declared.lot.Lot.{Lot}
use Rattle.calls.specs.declared.Exposure.{Exposure}
use Rattle.calls.specs.declared.Instruction.{Instruction}
use Rattle.calls.specs.State.{State}
use Rattle.calls.specs.Call.{Call, Outcome, cause}
use Rattle.calls.specs.Call.Call.{add, withdraw, open_exposure, close, begin, allocate, settle, abandon}
use Rattle.calls.specs.Step.{Decided, Grants, with_lot, with_exposure, zeroed}
use Rattle.calls.specs.Life.{Life, Sizes}
use Rattle.calls.specs.Life.Life.{opened, next}

pub length_zeroed : (t : List ℕ) (e n : ℕ) → length (zeroed t e n) ≡ length t
unfolding zeroed
length_zeroed t e zero = refl
length_zeroed t e (suc n) = length-set (zeroed t e n) (n * 16 + e) 0 ∙ length_zeroed t e n

module _ (s : State) (z : Sizes s) where
  lot_sizes : (p : ℕ) (x : Option Lot) → Sizes (with_lot s p x)
  lot_sizes p x = record { lots = length-set s.lots p x ∙ z.lots; exposures = z.exposures; standing = z.standing; working = z.working }

  exposure_sizes : (p : ℕ) (x : Option Exposure) → Sizes (with_exposure s p x)
  exposure_sizes p x = record { lots = z.lots; exposures = length-set s.exposures p x ∙ z.exposures; standing = z.standing; working = z.working }

  granted : (m : Meaning) (c : Call) (o : Outcome) (t : State) → Grants m c s o t → Sizes t
  granted m (add p terms card) o t (h, cut, eo, et) = rw et (lot_sizes p _)
  granted m (withdraw p) o t (eo, et) = rw et (lot_sizes p None)
  granted m (open_exposure p a n) o t (eo, et) = rw et (exposure_sizes p _)
  granted m (close p list) o t (eo, et) =
      let closed = exposure_sizes p None in
      rw et (record {
        lots = closed.lots;
        exposures = closed.exposures;
        standing = length_zeroed s.standing p 64 ∙ z.standing;
        working = length_zeroed s.working p 64 ∙ z.working;
      })
  granted m begin o t (eo, et) = rw et (record { lots = z.lots; exposures = z.exposures; standing = z.standing; working = z.working })
  granted m (allocate slip note) o t (inl v) = rw v.after (record { lots = z.lots; exposures = z.exposures; standing = z.standing; working = v.size })
  granted m (allocate slip note) o t (inr v) = rw v.same z
  granted m (settle slip list) o t (eo, et) = rw et (record { lots = z.lots; exposures = z.exposures; standing = z.working; working = z.working })
  granted m (abandon slip) o t (eo, et) = rw et (record { lots = z.lots; exposures = z.exposures; standing = z.standing; working = z.standing })

  decided : (m : Meaning) (d : Option Cause) (c : Call) (o : Outcome) (t : State) → Decided d m c s o t → Sizes t
  decided m (Some e) c o t (eo, et) = rw et z
  decided m None c o t h = granted m c o t h

pub sizes : (m : Meaning) (number : ℕ) (s : State) (given : List Instruction) → Life m number s given → Sizes s
sizes m number s given opened = record {
  lots = length-replicate {A = Option Lot} 64 None;
  exposures = length-replicate {A = Option Exposure} 16 None;
  standing = length-replicate {A = ℕ} 1024 0;
  working = length-replicate {A = ℕ} 1024 0;
}
sizes m number t all (next {s} {given} life c o _ step) = decided s (sizes m number s given life) m (cause m s c) c o t step
