-- Every life of a book is sound.
--
-- By induction over the calls, with more than is wanted: outside a run the working table is the standing one. A refusal changes
-- nothing. Adding a lot puts it where there was none, and there a lawful table has no pledge; withdrawing takes a lot without a
-- standing pledge, so without a working one, since no run is open; opening and closing are like these, and closing zeroes the
-- pledges that go. So in all four both tables stay lawful: pledges only fall, and what is left of them lies on what it lay on.
-- Beginning changes neither table. A granted allocation says itself that its table is lawful. Settling and abandoning make the two
-- tables the same, one of the two that were lawful. The instructions of a settling add up to what the working table has more than
-- the standing one, those of a closing to minus what it zeroes, and no other call changes the standing table or gives any out.

use Rattle.std.proofs.Common.{◌≡◌, ℕ, ◌+◌, ◌*◌, ◌<◌, false, not, ltb, List, ◌++◌, get_or, set, replicate, pos, ◌-ℤ◌, Some, None, Option, sym, refl, ap, ◌∙◌, inl, inr, append-nil, arith}
use Rattle.std.proofs.lemmas.List.{get_or-set_other}
use Rattle.std.proofs.lemmas.Int.{ints}
use Rattle.std.proofs.lemmas.Bool.{cases_eq, ltb-false, both_ways, true≢false, not-false, and_parts}
use Rattle.cause.specs.declared.Cause.{Cause}
use Rattle.network.specs.Sums.{sum_over, when}
use Rattle.network.proofs.Sums.{sum_none, sum_term}
use Rattle.table.specs.Table.{Situation, Lawful, of_issuer}
use Rattle.table.proofs.Sums.{when_low}
use Rattle.binder.specs.Meaning.{Meaning}
use Rattle.curve.specs.declared.lot.Lot.{Lot}
use Rattle.calls.specs.declared.Instruction.{Instruction}
use Rattle.calls.specs.declared.Exposure.{Exposure}
use Rattle.calls.specs.State.{State, opening, table, held_at, open_at}
use Rattle.calls.specs.Situation.{situation}
use Rattle.calls.specs.Instructions.{changes, closings, amounts}
use Rattle.calls.specs.Call.{Call, Outcome, cause, own, given_out, pledged_at}
use Rattle.calls.specs.Call.Call.{add, withdraw, open_exposure, close, begin, allocate, settle, abandon}
use Rattle.calls.specs.Step.{Decided, Grants, with_lot, with_exposure, zeroed}
use Rattle.calls.specs.Life.{Life}
use Rattle.calls.specs.Life.Life.{opened, next}
use Rattle.calls.specs.Laws.{EveryLifeSound}
use Rattle.calls.proofs.Causes.{passed}
use Rattle.calls.proofs.Sizes.{sizes}
use Rattle.calls.proofs.Lawful.{lessened, none_above}
use Rattle.calls.proofs.Zeroed.{zeroed_there, zeroed_other, zeros_at}
use Rattle.calls.proofs.Tallies.{take_written, amounts-++, changes_tally, closings_tally}
use Rattle.calls.proofs.Allocations.{allocates, settles, abandons}

abbrev Tallied : List Instruction → List ℕ → Type 0
Tallied given standing = (l e : ℕ) → l < 64 → e < 16 → amounts given l e ≡ pos (table standing l e)

-- what the induction carries
record Kept (m : Meaning) (s : State) (given : List Instruction) : Type 0 where
  standing : Lawful (situation m s) (table s.standing)
  working : Lawful (situation m s) (table s.working)
  at_rest : s.in_run ≡ false → s.working ≡ s.standing
  tallies : Tallied given s.standing

-- a table that is lawful in a state
module _ (m : Meaning) (s : State) (t : List ℕ) (w : Lawful (situation m s) (table t)) where
  -- at an empty place it has no pledge
  no_lot : (l : ℕ) → l < 64 → held_at s.lots l ≡ false → (e : ℕ) → e < 16 → table t l e ≡ 0
  no_lot l h n e j =
      elim (cases_eq (table t l e) 0) [
        | inl z ↦ z
        | inr y ↦ absurd (both_ways _ n (and_parts (held_at s.lots l) _ (w.grounded l e h j (omega arith))).0)
      ]

  no_exposure : (e : ℕ) → e < 16 → open_at s.exposures e ≡ false → (l : ℕ) → l < 64 → table t l e ≡ 0
  no_exposure e j n l h =
      elim (cases_eq (table t l e) 0) [
        | inl z ↦ z
        | inr y ↦ absurd (both_ways _ n (and_parts (open_at s.exposures e) _ (and_parts (held_at s.lots l) _ (w.grounded l e h j (omega arith))).1).0)
      ]

  -- another lot, or none, where it has no pledge
  lot_changed : (l : ℕ) (x : Option Lot) → ((e : ℕ) → e < 16 → table t l e ≡ 0) → Lawful (situation m (with_lot s l x)) (table t)
  lot_changed l x z = lessened m s.lots (set s.lots l x) s.exposures s.exposures (table t) (table t) (record {
    fewer = λ k e h j. omega arith;
    rows = λ k h. elim (cases_eq k l) [ inl is ↦ inl (λ e j. ap (λ a. table t a e) is ∙ z e j) | inr ne ↦ inr (get_or-set_other s.lots l k x None ne) ];
    columns = λ e j. inr refl;
  }) w

  -- another exposure, or none, and a table with no pledge to it and the same pledges to the others
  exposure_changed : (e : ℕ) (x : Option Exposure) (q : List ℕ) → ((l : ℕ) → l < 64 → table q l e ≡ 0) → ((l k : ℕ) → k < 16 → (k ≡ e → ⊥) → table q l k ≡ table t l k)
      → Lawful (situation m (with_exposure s e x)) (table q)
  exposure_changed e x q z same = lessened m s.lots s.lots s.exposures (set s.exposures e x) (table t) (table q) (record {
    fewer = λ l k h j. elim (cases_eq k e) [ inl is ↦ omega (arith, ap (table q l) is, z l h) | inr ne ↦ omega (arith, same l k j ne) ];
    rows = λ l h. inr refl;
    columns = λ k j. elim (cases_eq k e) [ inl is ↦ inl (λ l h. ap (table q l) is ∙ z l h) | inr ne ↦ inr (get_or-set_other s.exposures e k x None ne) ];
  }) w

  added_lawful : (l : ℕ) (x : Lot) → l < 64 → held_at s.lots l ≡ false → Lawful (situation m (with_lot s l (Some x))) (table t)
  added_lawful l x h n = lot_changed l (Some x) (no_lot l h n)

  opened_lawful : (e : ℕ) (x : Exposure) → e < 16 → open_at s.exposures e ≡ false → Lawful (situation m (with_exposure s e (Some x))) (table t)
  opened_lawful e x j n = exposure_changed e (Some x) t (no_exposure e j n) (λ _ _ _ _. refl)

  closed_lawful : (e : ℕ) → e < 16 → Lawful (situation m (with_exposure s e None)) (table (zeroed t e 64))
  closed_lawful e j = exposure_changed e None (zeroed t e 64) (zeroed_there t e 64) (λ l k g ne. zeroed_other t e 64 l k j g ne)

-- a table without pledges is lawful in any situation
blank_lawful : (r : Situation) (t : List ℕ) → ((p : ℕ) → get_or t p 0 ≡ 0) → Lawful r (table t)
blank_lawful r t z = record {
  grounded = λ l e h j y. absurd (none_above (table t l e) (z (l * 16 + e)) y);
  lots = λ l h y. omega (arith, sum_none 16 (λ e. table t l e) (λ e j. z (l * 16 + e)));
  issuers = λ e i j y. omega (arith, sum_none 64 (λ l. when (of_issuer r i l) (table t l e)) (λ l h. omega (arith, when_low (of_issuer r i l) (table t l e), z (l * 16 + e))));
  exposures = λ e j y. omega (arith, sum_none 64 (λ l. table t l e) (λ l h. z (l * 16 + e)));
}

-- instructions that add up to the new pledges less the old ones, given out after those that add up to the old ones
tallied_more : (given more : List Instruction) (old new : List ℕ) → Tallied given old
    → ((l e : ℕ) → l < 64 → e < 16 → amounts more l e ≡ pos (table new l e) -ℤ pos (table old l e)) → Tallied (given ++ more) new
tallied_more given more old new before adds l e h j = rw (amounts-++ given more l e) (omega (arith, ints, before l e h j, adds l e h j))

module _ (m : Meaning) (s : State) (given : List Instruction) (k : Kept m s given) where
  -- a call that no cause is against
  granted : (c : Call) (o : Outcome) (t : State) → cause m s c ≡ None → Grants m c s o t → Kept m t (given ++ given_out o)
  granted (add l x card) o t free (h, cut, eo, et) =
      let place = passed (ltb 63 l) _ _ free in
      let run = passed s.in_run _ _ place.1 in
      let empty = passed (held_at s.lots l) _ _ run.1 in
      let low : l < 64 = omega (arith, ltb-false 63 l place.0) in
      rw (eo, et, append-nil) (record {
        standing = added_lawful m s s.standing k.standing l _ low empty.0;
        working = added_lawful m s s.working k.working l _ low empty.0;
        at_rest = k.at_rest;
        tallies = k.tallies;
      })
  granted (withdraw l) o t free (eo, et) =
      let place = passed (ltb 63 l) _ _ free in
      let run = passed s.in_run _ _ place.1 in
      let empty = passed (not (held_at s.lots l)) _ _ run.1 in
      let pledged = passed (pledged_at s l) _ _ empty.1 in
      let stands : (e : ℕ) → e < 16 → table s.standing l e ≡ 0 =
      λ e j. omega (arith, ltb-false 0 (sum_over 16 (λ e. table s.standing l e)) pledged.0, sum_term 16 e (λ e. table s.standing l e) j) in
      rw (eo, et, append-nil) (record {
        standing = lot_changed m s s.standing k.standing l None stands;
        working = lot_changed m s s.working k.working l None (λ e j. ap (λ t. table t l e) (k.at_rest run.0) ∙ stands e j);
        at_rest = k.at_rest;
        tallies = k.tallies;
      })
  granted (open_exposure e a n) o t free (eo, et) =
      let place = passed (ltb 15 e) _ _ free in
      let run = passed s.in_run _ _ place.1 in
      let empty = passed (open_at s.exposures e) _ _ run.1 in
      let low : e < 16 = omega (arith, ltb-false 15 e place.0) in
      rw (eo, et, append-nil) (record {
        standing = opened_lawful m s s.standing k.standing e _ low empty.0;
        working = opened_lawful m s s.working k.working e _ low empty.0;
        at_rest = k.at_rest;
        tallies = k.tallies;
      })
  granted (close e list) o t free (eo, et) =
      let place = passed (ltb 15 e) _ _ free in
      let run = passed s.in_run _ _ place.1 in
      let low : e < 16 = omega (arith, ltb-false 15 e place.0) in
      rw (eo, et, take_written (closings s.standing e 64) list) (record {
        standing = closed_lawful m s s.standing k.standing e low;
        working = closed_lawful m s s.working k.working e low;
        at_rest = λ _. ap (λ t. zeroed t e 64) (k.at_rest run.0);
        tallies = tallied_more given (closings s.standing e 64) s.standing (zeroed s.standing e 64) k.tallies (λ l f. closings_tally s.standing e l f low);
      })
  granted begin o t free (eo, et) = rw (eo, et, append-nil) (record {
    standing = k.standing;
    working = k.working;
    at_rest = λ n. absurd (true≢false n);
    tallies = k.tallies;
  })
  granted (allocate slip note) o t free (inl v) =
      let run = and_parts s.in_run _ (not-false (own s slip) (passed (not (own s slip)) _ _ free).0) in
      rw (v.answer, v.after, append-nil) (record {
        standing = k.standing;
        working = v.covered.lawful;
        at_rest = λ n. absurd (both_ways s.in_run n run.0);
        tallies = k.tallies;
      })
  granted (allocate slip note) o t free (inr v) = rw (v.answer, v.same, append-nil) k
  granted (settle slip list) o t free (eo, et) = rw (eo, et, take_written (changes s.standing s.working 1024) list) (record {
    standing = k.working;
    working = k.working;
    at_rest = λ _. refl;
    tallies = tallied_more given (changes s.standing s.working 1024) s.standing s.working k.tallies (changes_tally s.standing s.working);
  })
  granted (abandon slip) o t free (eo, et) = rw (eo, et, append-nil) (record {
    standing = k.standing;
    working = k.standing;
    at_rest = λ _. refl;
    tallies = k.tallies;
  })

  decided : (d : Option Cause) (c : Call) (o : Outcome) (t : State) → cause m s c ≡ d → Decided d m c s o t → Kept m t (given ++ given_out o)
  decided (Some e) c o t is (eo, et) = rw (eo, et, append-nil) k
  decided None c o t is h = granted c o t is h

kept : (m : Meaning) (number : ℕ) (s : State) (given : List Instruction) → Life m number s given → Kept m s given
kept m number s given opened =
    let zeros = replicate {A = ℕ} 1024 0 in
    let blank = blank_lawful (situation m (opening number)) zeros (zeros_at 1024) in
    record { standing = blank; working = blank; at_rest = λ _. refl; tallies = λ l e h j. ap pos (sym (zeros_at 1024 (l * 16 + e))) }
kept m number t all (next {s} {given} life c o _ step) = decided m s given (kept m number s given life) (cause m s c) c o t refl step

pub every_life_sound : EveryLifeSound
every_life_sound m number s given life =
    let k = kept m number s given life in
    record {
      sizes = sizes m number s given life;
      standing = k.standing;
      working = k.working;
      allocates = λ run note o t step. allocates m s note o t run step;
      tallies = k.tallies;
      settles = λ slip list n new t step. settles m s slip t list n new step;
      abandons = λ slip t step. abandons m s slip t step;
    }
