-- What a book holds is what the granted calls of its life say.
--
-- By induction over the calls. A refused call changes nothing and says nothing. A granted call changes the one place that it names,
-- which is one of those that there are, to what it says of it, and leaves the others as they were.

use Rattle.std.proofs.Common.{◌≡◌, ℕ, ◌<◌, false, cond, eqb, ltb, List, length, get_or, set, Some, None, Option, refl, ap, ◌∙◌, inl, inr, arith}
use Rattle.std.proofs.lemmas.List.{get_or-set_same, get_or-set_other, get_or-replicate}
use Rattle.std.proofs.lemmas.Bool.{cases_eq, eq-eqb, ne_eqb, ltb-false}
use Rattle.cause.specs.declared.Cause.{Cause}
use Rattle.binder.specs.Meaning.{Meaning}
use Rattle.curve.specs.declared.lot.Lot.{Lot}
use Rattle.calls.specs.declared.Exposure.{Exposure}
use Rattle.calls.specs.declared.Instruction.{Instruction}
use Rattle.calls.specs.State.{State, lot_at, exposure_at}
use Rattle.calls.specs.Call.{Call, Outcome, cause}
use Rattle.calls.specs.Call.Call.{add, withdraw, open_exposure, close, begin, allocate, settle, abandon}
use Rattle.calls.specs.Step.{Decided, Grants}
use Rattle.calls.specs.Life.{Life, Sizes}
use Rattle.calls.specs.Life.Life.{opened, next}
use Rattle.calls.specs.History.{granted, lot_after, exposure_after, Runs, runs_after, lot_told, exposure_told, runs_told}
use Rattle.calls.specs.Laws.{ToldByCalls}
use Rattle.calls.proofs.Causes.{passed}
use Rattle.calls.proofs.Sizes.{sizes}

-- a place that is set, and another
set_told : {A : Type 0} (xs : List (Option A)) (p l : ℕ) (x was : Option A) → p < length xs → get_or xs l None ≡ was → get_or (set xs p x) l None ≡ cond (eqb l p) x was
set_told xs p l x was h is =
    elim (cases_eq l p) [
      | inl e ↦ rw (eq-eqb l p e, e) (get_or-set_same xs p x None h)
      | inr ne ↦ rw (ne_eqb l p ne) (get_or-set_other xs p l x None ne ∙ is)
    ]

-- what is told of a state
record Says (s : State) (number : ℕ) (lots : ℕ → Option Lot) (exposures : ℕ → Option Exposure) (runs : Runs) : Type 0 where
  of_lots : (l : ℕ) → l < 64 → lot_at s.lots l ≡ lots l
  of_exposures : (e : ℕ) → e < 16 → exposure_at s.exposures e ≡ exposures e
  of_runs : record { is_open = s.in_run; begun = s.run } ≡ runs
  of_number : s.number ≡ number

module _ (m : Meaning) (s : State) (number : ℕ) (lots : ℕ → Option Lot) (exposures : ℕ → Option Exposure) (runs : Runs) (z : Sizes s) (k : Says s number lots exposures runs) where
  abbrev After : Call → Outcome → State → Type 0
  After c o t = Says t number (λ l. cond (granted o) (lot_after c o l (lots l)) (lots l)) (λ e. cond (granted o) (exposure_after c e (exposures e)) (exposures e)) (cond (granted o) (runs_after c runs) runs)

  -- the place that a call names is one of those that there are
  lot_place : (p : ℕ) → ltb 63 p ≡ false → p < length s.lots
  lot_place p h = omega (arith, ltb-false 63 p h, z.lots)

  exposure_place : (p : ℕ) → ltb 15 p ≡ false → p < length s.exposures
  exposure_place p h = omega (arith, ltb-false 15 p h, z.exposures)

  says_granted : (c : Call) (o : Outcome) (t : State) → cause m s c ≡ None → Grants m c s o t → After c o t
  says_granted (add p terms card) o t free (h, cut, eo, et) =
      let low = lot_place p (passed (ltb 63 p) _ _ free).0 in
      rw (eo, et) (record { of_lots = λ l j. set_told s.lots p l _ (lots l) low (k.of_lots l j); of_exposures = k.of_exposures; of_runs = k.of_runs; of_number = k.of_number })
  says_granted (withdraw p) o t free (eo, et) =
      let low = lot_place p (passed (ltb 63 p) _ _ free).0 in
      rw (eo, et) (record { of_lots = λ l j. set_told s.lots p l None (lots l) low (k.of_lots l j); of_exposures = k.of_exposures; of_runs = k.of_runs; of_number = k.of_number })
  says_granted (open_exposure p a n) o t free (eo, et) =
      let low = exposure_place p (passed (ltb 15 p) _ _ free).0 in
      rw (eo, et) (record { of_lots = k.of_lots; of_exposures = λ e j. set_told s.exposures p e _ (exposures e) low (k.of_exposures e j); of_runs = k.of_runs; of_number = k.of_number })
  says_granted (close p list) o t free (eo, et) =
      let low = exposure_place p (passed (ltb 15 p) _ _ free).0 in
      rw (eo, et) (record { of_lots = k.of_lots; of_exposures = λ e j. set_told s.exposures p e None (exposures e) low (k.of_exposures e j); of_runs = k.of_runs; of_number = k.of_number })
  says_granted begin o t free (eo, et) =
      rw (eo, et) (record { of_lots = k.of_lots; of_exposures = k.of_exposures; of_runs = ap (runs_after begin) k.of_runs; of_number = k.of_number })
  says_granted (allocate slip note) o t free (inl v) =
      rw (v.answer, v.after) (record { of_lots = k.of_lots; of_exposures = k.of_exposures; of_runs = k.of_runs; of_number = k.of_number })
  says_granted (allocate slip note) o t free (inr v) = rw (v.answer, v.same) k
  says_granted (settle slip list) o t free (eo, et) =
      rw (eo, et) (record { of_lots = k.of_lots; of_exposures = k.of_exposures; of_runs = ap (runs_after (settle slip list)) k.of_runs; of_number = k.of_number })
  says_granted (abandon slip) o t free (eo, et) =
      rw (eo, et) (record { of_lots = k.of_lots; of_exposures = k.of_exposures; of_runs = ap (runs_after (abandon slip)) k.of_runs; of_number = k.of_number })

  says_decided : (d : Option Cause) (c : Call) (o : Outcome) (t : State) → cause m s c ≡ d → Decided d m c s o t → After c o t
  says_decided (Some e) c o t is (eo, et) = rw (eo, et) k
  says_decided None c o t is h = says_granted c o t is h

says : (m : Meaning) (number : ℕ) (s : State) (given : List Instruction) (life : Life m number s given) → Says s number (lot_told life) (exposure_told life) (runs_told life)
says m number s given opened = record { of_lots = λ l h. get_or-replicate 64 l None None h; of_exposures = λ e h. get_or-replicate 16 e None None h; of_runs = refl; of_number = refl }
says m number t all (next {s} {given} life c o _ step) =
    says_decided m s number (lot_told life) (exposure_told life) (runs_told life) (sizes m number s given life) (says m number s given life) (cause m s c) c o t refl step

pub told_by_calls : ToldByCalls
told_by_calls m number s given life =
    let k = says m number s given life in
    record { lots = k.of_lots; exposures = k.of_exposures; runs = k.of_runs; number_is = k.of_number }
