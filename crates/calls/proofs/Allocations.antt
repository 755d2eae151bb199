-- Allocating, settling and abandoning, by the relation alone.
--
-- With the slip of the open run no cause is against allocating, so it is served or denied. Served, the run holds a lawful table
-- that covers, so there is one; denied, there is none. So each of the two answers tells whether some lawful table covers, and the
-- answer is the one that fits.

use Rattle.std.proofs.Common.{◌≡◌, ℕ, true, not, eqb, ◌⊎◌, List, Some, None, Option, refl, ap, subst, inl, inr, arith}
use Rattle.std.proofs.lemmas.Bool.{eq-eqb, and_from}
use Rattle.cause.specs.declared.Cause.{Cause}
use Rattle.cause.specs.declared.Cause.TheVariants.{SlipStale}
use Rattle.binder.specs.Meaning.{Meaning}
use Rattle.calls.specs.declared.Instruction.{Instruction}
use Rattle.cover.specs.declared.record.Record.{Record}
use Rattle.calls.specs.State.{State, table}
use Rattle.calls.specs.Situation.{situation}
use Rattle.calls.specs.Call.{Outcome, Numbers, cause, own, first}
use Rattle.calls.specs.Call.Call.{allocate, settle, abandon}
use Rattle.calls.specs.Call.Outcome.{short, allocated, settled, abandoned}
use Rattle.calls.specs.Step.{Step, Decided, Serves, Denies}
use Rattle.calls.specs.Life.{slip_of_run, Coverable, Allocates}
use Rattle.calls.proofs.Flows.{covering_maximum, shortage_cut}

-- no answer is of two kinds
one_answer : (o : Outcome) (k x : ℕ) (note r : Record) → o ≡ allocated k note → o ≡ short x r → ⊥
one_answer o k x note r a b = let z : ◌≡◌ {A = ℕ} 0 1 = cc in omega arith

module _ (m : Meaning) (s : State) (note : Record) (o : Outcome) (t : State) where
  served : Serves m s note o t → Allocates m s note o t
  served v =
      let some : Coverable m s = (table v.pledges, v.covered.lawful, v.covered.covers) in
      record {
        granted = ((λ _. (v.rounds, v.answer)), (λ _. some));
        refused = ((λ none. absurd (none some)), (λ at. absurd (one_answer o v.rounds at.0 note at.1 v.answer at.2)));
        held = λ k is.
            let same : v.rounds ≡ k = cc (is, v.answer) in
            rw (v.after, ← same) (record { lawful = v.covered.lawful; covers = v.covered.covers; maximum = covering_maximum (situation m s) (table v.pledges) v.covered.lawful v.covered.covers; first = v.covered.first; starts = v.covered.starts; chain = v.covered.chain });
        least = λ x r is. absurd (one_answer o v.rounds x note r v.answer is);
      }

  denied : Denies m s o t → Allocates m s note o t
  denied v =
      let none : Coverable m s → ⊥ = λ some. v.denied.none some.0 some.1 some.2 in
      record {
        granted = ((λ some. absurd (none some)), (λ at. absurd (one_answer o at.0 v.shortage note v.note at.1 v.answer)));
        refused = ((λ _. (v.shortage, v.note, v.answer)), (λ _. none));
        held = λ k is. absurd (one_answer o k v.shortage note v.note is v.answer);
        least = λ x r is.
            let amount : v.shortage ≡ x = cc (is, v.answer) in
            let record_is : v.note ≡ r = cc (is, v.answer) in (
              rw (← amount, ← record_is) (record {
                some = (v.denied.shortage.table, v.denied.shortage.lawful, v.denied.shortage.meets);
                every = v.denied.shortage.least;
                above = v.denied.explains.above;
                explains = v.denied.explains;
                cut = shortage_cut (situation m s) v.shortage v.denied.shortage;
              }),
              v.same,
            );
      }

  pub allocates : s.in_run ≡ true → Step m (allocate (slip_of_run s) note) s o t → Allocates m s note o t
  allocates run step =
      let mine : own s (slip_of_run s) ≡ true = and_from s.in_run _ run (and_from (eqb s.number s.number) _ (eq-eqb s.number s.number refl) (eq-eqb s.run s.run refl)) in
      let free : cause m s (allocate (slip_of_run s) note) ≡ None = ap (λ b. first (not b) SlipStale None) mine in
      let way : Serves m s note o t ⊎ Denies m s o t = subst (λ d. Decided d m (allocate (slip_of_run s) note) s o t) free step in
      elim way [ inl v ↦ served v | inr v ↦ denied v ]

module _ (m : Meaning) (s : State) (slip : Numbers) (t : State) where
  settled_by : (list : List Instruction) (n : ℕ) (new : List Instruction) (d : Option Cause) → Decided d m (settle slip list) s (settled n new) t → (t.standing ≡ s.working) × (t.working ≡ s.working)
  settled_by list n new None (eo, et) = rw et (refl, refl)
  settled_by list n new (Some e) (eo, et) = let z : ◌≡◌ {A = ℕ} 0 1 = cc eo in absurd (omega arith)

  pub settles : (list : List Instruction) (n : ℕ) (new : List Instruction) → Step m (settle slip list) s (settled n new) t → (t.standing ≡ s.working) × (t.working ≡ s.working)
  settles list n new step = settled_by list n new (cause m s (settle slip list)) step

  abandoned_by : (d : Option Cause) → Decided d m (abandon slip) s abandoned t → (t.working ≡ s.standing) × (t.standing ≡ s.standing)
  abandoned_by None (eo, et) = rw et (refl, refl)
  abandoned_by (Some e) (eo, et) = let z : ◌≡◌ {A = ℕ} 0 1 = cc eo in absurd (omega arith)

  pub abandons : Step m (abandon slip) s abandoned t → (t.working ≡ s.standing) × (t.standing ≡ s.standing)
  abandons step = abandoned_by (cause m s (abandon slip)) step
