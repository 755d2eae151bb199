-- Orders as calls, and the slip that is held after each.

use Rattle.std.proofs.Common.{◌≡◌, ℕ, Bool, true, false, cond, not, eqb, leb, List, [], Some, None, Ok, Err, Option, Result, sym, refl, ap, ◌∙◌, subst, inl, inr, eq-eqb}
use Rattle.std.specs.Option.{ok_or}
use Rattle.std.proofs.lemmas.Bool.{eqb-true, and_parts}
use Rattle.cause.specs.declared.Cause.{Cause}
use Rattle.cause.specs.declared.Cause.TheVariants.{RunOpen, RunsSpent, SlipStale}
use Rattle.binder.specs.Meaning.{Meaning}
use Rattle.curve.specs.declared.card.Card.{Card}
use Rattle.cover.specs.declared.record.Record.{Record}
use Rattle.calls.specs.declared.Instruction.{Instruction}
use Rattle.calls.specs.State.{State}
use Rattle.calls.specs.Call as call
use Rattle.calls.specs.Call.{Call, Numbers, cause, own, given_out}
use Rattle.calls.specs.Call.Call.{add, withdraw, open_exposure, close, begin, allocate, settle, abandon}
use Rattle.calls.specs.Call.Outcome.{refused, short, added, withdrawn, exposed, closed, began, allocated, settled, abandoned}
use Rattle.calls.specs.Step.{Step, Decided, Grants}
use Rattle.book.specs.View.{numbers}
use Rattle.book.specs.declared.slip.Slip.{Slip}
use Rattle.life.specs.Turn.{slip_of, with_slip, told, count_of, Turn}
use Rattle.life.specs.Matched.{has_slip}
use Rattle.life.specs.Reported.{reported}
use Rattle.book.specs.Answers.{allocating, abandoning}
use Rattle.book.specs.declared.book.allocate.AllocateFault.{AllocateFault}
use Rattle.book.specs.declared.book.allocate.AllocateFault.TheVariants as fault
use Rattle.life.specs.declared.order.Order.{Order}

-- a record that no call reads
pub blank_note : Record
blank_note = record { exposures = 0; lots = 0; issuers = [] }

-- the slip that is held is that of the open run
pub slip_held : (s : State) (x : Slip) → has_slip s (Some x) ≡ true → slip_of s ≡ Some (numbers x)
slip_held s x h =
    let run = (and_parts s.in_run _ h).0 in
    let both = and_parts _ _ (and_parts s.in_run _ h).1 in
    let book : x.book ≡ s.number = eqb-true _ _ both.0 in
    let latest : x.run ≡ s.run = eqb-true _ _ both.1 in
    ap (λ b. cond b (Some (record { book = s.number; run = s.run })) None) run ∙ named s.number x.book s.run x.run book latest where
      named : (a b c d : ℕ) → b ≡ a → d ≡ c → ◌≡◌ {A = Option Numbers} (Some (record { book = a; run = c })) (Some (record { book = b; run = d }))
      named a b c d p q = ap (λ n. Some (record { book = n; run = c })) (sym p) ∙ ap (λ n. Some (record { book = b; run = n })) (sym q)

not_true : (b : Bool) → not b ≡ true → b ≡ false
not_true true h = sym h
not_true false h = refl

pub slip_none : (s : State) → has_slip s None ≡ true → slip_of s ≡ None
slip_none s h = ap (λ b. cond b (Some (record { book = s.number; run = s.run })) None) (not_true s.in_run h)

-- a call that needs a slip, with the slip that is held
pub slip_call : (s : State) (x : Slip) (f : Numbers → Call) → has_slip s (Some x) ≡ true → with_slip (slip_of s) f ≡ Some (f (numbers x))
slip_call s x f h = ap (λ n. with_slip n f) (slip_held s x h)

pub no_call : (s : State) (f : Numbers → Call) → has_slip s None ≡ true → with_slip (slip_of s) f ≡ None
no_call s f h = ap (λ n. with_slip n f) (slip_none s h)

eqb_self : (n : ℕ) → eqb n n ≡ true
eqb_self n = eq-eqb n n refl

-- what is held after a call that went with the slip, or opened a run
module _ (m : Meaning) (s t : State) where
  pub begun : (n : Numbers) → Step m begin s (began n) t → (t.in_run ≡ true) × (t.number ≡ n.book) × (t.run ≡ n.run)
  begun n = decided (cause m s begin) where
    decided : (v : Option Cause) → Decided v m begin s (began n) t → (t.in_run ≡ true) × (t.number ≡ n.book) × (t.run ≡ n.run)
    decided (Some e) (eo, et) = absurd (cc)
    decided None (eo, et) = (ap (λ (x : State). x.in_run) et, (cc), (cc))

  pub settled_over : (x : Numbers) (list new : List Instruction) (n : ℕ) → Step m (settle x list) s (settled n new) t → t.in_run ≡ false
  settled_over x list new n = decided (cause m s (settle x list)) where
    decided : (v : Option Cause) → Decided v m (settle x list) s (settled n new) t → t.in_run ≡ false
    decided (Some e) (eo, et) = absurd (cc)
    decided None (eo, et) = ap (λ (y : State). y.in_run) et

  pub abandoned_over : (x : Numbers) → Step m (abandon x) s abandoned t → t.in_run ≡ false
  abandoned_over x = decided (cause m s (abandon x)) where
    decided : (v : Option Cause) → Decided v m (abandon x) s abandoned t → t.in_run ≡ false
    decided (Some e) (eo, et) = absurd (cc)
    decided None (eo, et) = ap (λ (y : State). y.in_run) et

-- some meaning, for calls that ask no binder
pub no_meaning : Meaning
no_meaning = record { held = λ _. false; admits = λ _ _. false; share = λ _ _. 0 }

-- a refusal leaves the state, and hands back what was passed
never_refused : (m : Meaning) (c : Call) (s t : State) (e : Cause) (b : call.Back) → Grants m c s (refused e b) t → ⊥
never_refused m (add p x k) s t e b (h, w, eo, et) = (cc)
never_refused m (withdraw p) s t e b (eo, et) = (cc)
never_refused m (open_exposure p a n) s t e b (eo, et) = (cc)
never_refused m (close p l) s t e b (eo, et) = (cc)
never_refused m begin s t e b (eo, et) = (cc)
never_refused m (allocate x r) s t e b (inl w) = let eo = w.answer in (cc)
never_refused m (allocate x r) s t e b (inr w) = let eo = w.answer in (cc)
never_refused m (settle x l) s t e b (eo, et) = (cc)
never_refused m (abandon x) s t e b (eo, et) = (cc)

pub refused_keeps : (m : Meaning) (c : Call) (s t : State) (e : Cause) (b : call.Back) → Step m c s (refused e b) t → (t ≡ s) × (b ≡ call.kept c)
refused_keeps m c s t e b = decided (cause m s c) where
  decided : (v : Option Cause) → Decided v m c s (refused e b) t → (t ≡ s) × (b ≡ call.kept c)
  decided (Some k) (eo, et) = (et, (cc))
  decided None g = absurd (never_refused m c s t e b g)

-- so the slip that is handed back is still that of the open run
module _ (m : Meaning) (s t : State) (x y : Slip) (held : has_slip s (Some x) ≡ true) where
  back_held : t ≡ s → numbers y ≡ numbers x → has_slip t (Some y) ≡ true
  back_held et en = subst (λ (n : Numbers). own t n ≡ true) (sym en) (subst (λ (u : State). own u (numbers x) ≡ true) (sym et) held)

  pub settle_back : (list list' : List Instruction) (e : Cause) → Step m (settle (numbers x) list) s (refused e (record { slip = Some (numbers y); list = list'; note = None })) t → has_slip t (Some y) ≡ true
  settle_back list list' e step =
      let r = refused_keeps m (settle (numbers x) list) s t e _ step in
      back_held r.0 (unwrap (ap (λ (b : call.Back). b.slip) r.1)) where
        unwrap : {a b : Numbers} → Some a ≡ Some b → a ≡ b
        unwrap p = cc

-- a new run's slip
pub begun_held : (m : Meaning) (s t : State) (y : Slip) → Step m begin s (began (numbers y)) t → has_slip t (Some y) ≡ true
begun_held m s t y step =
    let b = begun m s t (numbers y) step in
    rw (b.0, b.1, b.2, eqb_self y.book, eqb_self y.run) refl

-- no run is opened while one is open
pub not_begun : (m : Meaning) (s t : State) (x : Slip) (n : Numbers) → has_slip s (Some x) ≡ true → Step m begin s (began n) t → ⊥
not_begun m s t x n held step =
    let against : cause m s begin ≡ Some RunOpen = ap (λ b. call.first b RunOpen (call.first (leb 1000000 s.run) RunsSpent None)) (and_parts s.in_run _ held).0 in
    decided (subst (λ v. Decided v m begin s (began n) t) against step) where
      decided : (◌≡◌ {A = call.Outcome} (began n) (refused RunOpen (call.kept begin))) × (t ≡ s) → ⊥
      decided (eo, et) = (cc)

pub over : (t : State) → t.in_run ≡ false → has_slip t None ≡ true
over t h = ap not h

-- an allocation as it is told
pub allocation_told : (m : Meaning) (k : Card) (o : Order) (s t : State) (n : Numbers) (note : Record) (answer : Result ℕ AllocateFault)
    → Turn m k o s (told (allocating n note answer)) (given_out (allocating n note answer)) t → Turn m k o s (reported answer note) [] t
allocation_told m k o s t n note (Ok r) turn = turn
allocation_told m k o s t n note (Err fault.Slip) turn = turn
allocation_told m k o s t n note (Err (fault.Short x)) turn = turn

pub reported_none : (answer : Result ℕ AllocateFault) (note : Record) → count_of (reported answer note) ≡ 0
reported_none (Ok r) note = refl
reported_none (Err fault.Slip) note = refl
reported_none (Err (fault.Short x)) note = refl

-- calls that neither open nor end a run leave its slip
pub record SameRun (s t : State) : Type 0 where
  pub in_run : t.in_run ≡ s.in_run
  pub number : t.number ≡ s.number
  pub run : t.run ≡ s.run

same : (s t : State) → t ≡ s → SameRun s t
same s t e = record { in_run = ap (λ (x : State). x.in_run) e; number = ap (λ (x : State). x.number) e; run = ap (λ (x : State). x.run) e }

abbrev pub KeepsRun : Call → State → State → Type 0
KeepsRun (add p x k) s t = SameRun s t
KeepsRun (withdraw p) s t = SameRun s t
KeepsRun (open_exposure p a n) s t = SameRun s t
KeepsRun (close p l) s t = SameRun s t
KeepsRun begin s t = Unit {0}
KeepsRun (allocate x r) s t = SameRun s t
KeepsRun (settle x l) s t = Unit {0}
KeepsRun (abandon x) s t = Unit {0}

kept_same : (c : Call) (s t : State) → t ≡ s → KeepsRun c s t
kept_same (add p x k) s t e = same s t e
kept_same (withdraw p) s t e = same s t e
kept_same (open_exposure p a n) s t e = same s t e
kept_same (close p l) s t e = same s t e
kept_same begin s t e = tt
kept_same (allocate x r) s t e = same s t e
kept_same (settle x l) s t e = tt
kept_same (abandon x) s t e = tt

fields : (s t u : State) → t ≡ u → u.in_run ≡ s.in_run → u.number ≡ s.number → u.run ≡ s.run → SameRun s t
fields s t u e a b c = record { in_run = ap (λ (x : State). x.in_run) e ∙ a; number = ap (λ (x : State). x.number) e ∙ b; run = ap (λ (x : State). x.run) e ∙ c }

grants_keep : (m : Meaning) (c : Call) (s t : State) (o : call.Outcome) → Grants m c s o t → KeepsRun c s t
grants_keep m (add p x k) s t o (h, w, eo, et) = fields s t _ et refl refl refl
grants_keep m (withdraw p) s t o (eo, et) = fields s t _ et refl refl refl
grants_keep m (open_exposure p a n) s t o (eo, et) = fields s t _ et refl refl refl
grants_keep m (close p l) s t o (eo, et) = fields s t _ et refl refl refl
grants_keep m begin s t o g = tt
grants_keep m (allocate x r) s t o (inl w) = fields s t _ w.after refl refl refl
grants_keep m (allocate x r) s t o (inr w) = same s t w.same
grants_keep m (settle x l) s t o g = tt
grants_keep m (abandon x) s t o g = tt

pub step_keeps : (m : Meaning) (c : Call) (s t : State) (o : call.Outcome) → Step m c s o t → KeepsRun c s t
step_keeps m c s t o = decided (cause m s c) where
  decided : (v : Option Cause) → Decided v m c s o t → KeepsRun c s t
  decided (Some k) (eo, et) = kept_same c s t et
  decided None g = grants_keep m c s t o g

pub still_held : (s t : State) (x : Option Slip) → SameRun s t → has_slip s x ≡ true → has_slip t x ≡ true
still_held s t None r h = rw r.in_run h
still_held s t (Some x) r h = rw (r.in_run, r.number, r.run) h

-- the slip of the open run is never refused for an abandoning
pub never_stale : (m : Meaning) (s t : State) (x : Slip) → has_slip s (Some x) ≡ true → (e : Cause) (b : call.Back) → Step m (abandon (numbers x)) s (refused e b) t → ⊥
never_stale m s t x held e b step =
    let free : cause m s (abandon (numbers x)) ≡ None = ap (λ v. call.first (not v) SlipStale None) held in
    never_refused m (abandon (numbers x)) s t e b (subst (λ v. Decided v m (abandon (numbers x)) s (refused e b) t) free step)

-- so an abandoning with it ends the run
pub abandon_ends : (m : Meaning) (s t : State) (x : Slip) → has_slip s (Some x) ≡ true → (r : Result (Unit {0}) (Cause × Slip)) → Step m (abandon (numbers x)) s (abandoning r) t → t.in_run ≡ false
abandon_ends m s t x held (Ok u) step = abandoned_over m s t (numbers x) step
abandon_ends m s t x held (Err (e, y)) step = absurd (never_stale m s t x held e _ step)

-- where a run is opened, no slip is held
pub no_slip : (m : Meaning) (s t : State) (x : Option Slip) (n : Numbers) → has_slip s x ≡ true → Step m begin s (began n) t → x ≡ None
no_slip m s t None n held step = refl
no_slip m s t (Some x) n held step = absurd (not_begun m s t x n held step)

-- a value that is wanted is not there
pub none_left : {A E : Type 0} (o : Option A) (x e : E) → Err e ≡ ok_or o x → (o ≡ None) × (e ≡ x)
none_left None x e h = (refl, (cc))
none_left (Some a) x e h = absurd (cc)
