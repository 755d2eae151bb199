-- The moves of the machine: every mark that does not lead into `dead` is one of ten kinds. What a mark keeps is shown
-- by going through these ten.

use Rattle.std.proofs.Common.{◌≡◌, ℕ, ◌+◌, ◌*◌, ◌≤◌, Bool, true, false, not, eqb, ◌⊎◌, List, [], ◌∷◌, ◌++◌, length, sym, refl, ap, ◌∙◌, subst, inl, inr, arith, length-append}
use Rattle.std.proofs.lemmas.Bool.{cond_both, eqb-true, eqb-false}
use Rattle.grammar.specs.declared.Field.{Field}
use Rattle.grammar.specs.declared.Sign.{Sign}
use Rattle.grammar.specs.Grammar.{count, step}
use Rattle.rule.specs.declared.text.Lead.TheVariants.{Letter, Not, Open}
use Rattle.rule.specs.declared.text.Follow.{Follow}
use Rattle.rule.specs.declared.text.Follow.TheVariants.{And, Or, Close}
use Rattle.rule.specs.declared.text.Mark.{Mark}
use Rattle.rule.specs.declared.text.Mark.TheVariants.{Lead as Leads, Compare, Digit, Follow as Follows}
use Rattle.rule.specs.declared.steps.Step.{Step}
use Rattle.rule.specs.declared.steps.Step.TheVariants.{Test}
use Rattle.rule.specs.declared.text.Level.{Level}
use Rattle.rule.specs.declared.text.Mode.TheVariants.{Want, Named, Signed, Counting, Done}
use Rattle.rule.specs.Marks.{mark_of, steps, opens, closes}
use Rattle.rule.specs.Machine.{State, fresh, rested, anded, ored, flipped, bit, finished, ended, closed, next, scan, waits, wait, weight}
use Rattle.rule.specs.Machine.State.{dead, at}
use Rattle.rule.proofs.Lengths.{finished_length, ended_length}
use Rattle.rule.proofs.Bytes.{step_same, open_same, close_same}

-- a state in which a factor is complete, or a number that may be
pub data Rests : State → Level → List Level → List Step → Type 0 where
  done : {l : Level} {ls : List Level} {c : List Step} → Rests (at Done l ls c) l ls c
  counted : {f : Field} {s : Sign} {v : ℕ} {l : Level} {ls : List Level} {c : List Step} →
      Rests (at (Counting f s v) l ls c) (rested l) ls (finished l (c ++ Test f s v ∷ []))

pub data Moves : State → Mark → State → Type 0 where
  names : {f : Field} {l : Level} {ls : List Level} {c : List Step} → Moves (at Want l ls c) (Leads (Letter f)) (at (Named f) l ls c)
  negates : {l : Level} {ls : List Level} {c : List Step} → Moves (at Want l ls c) (Leads Not) (at Want (flipped l) ls c)
  enters : {l : Level} {ls : List Level} {c : List Step} → Moves (at Want l ls c) (Leads Open) (at Want fresh (l ∷ ls) c)
  signs : {f : Field} {s : Sign} {l : Level} {ls : List Level} {c : List Step} → Moves (at (Named f) l ls c) (Compare s) (at (Signed f s) l ls c)
  zeroes : {f : Field} {s : Sign} {k : ℕ} {l : Level} {ls : List Level} {c : List Step} → k ≡ 0 →
      Moves (at (Signed f s) l ls c) (Digit k) (closed l ls (c ++ Test f s 0 ∷ []))
  begins : {f : Field} {s : Sign} {k : ℕ} {l : Level} {ls : List Level} {c : List Step} → (k ≡ 0 → ⊥) →
      Moves (at (Signed f s) l ls c) (Digit k) (at (Counting f s k) l ls c)
  counts : {f : Field} {s : Sign} {v k : ℕ} {l : Level} {ls : List Level} {c : List Step} →
      Moves (at (Counting f s v) l ls c) (Digit k) (at (Counting f s (10 * v + k)) l ls c)
  ands : {st : State} {l : Level} {ls : List Level} {c : List Step} → Rests st l ls c → Moves st (Follows And) (at Want (anded l) ls c)
  ors : {st : State} {l : Level} {ls : List Level} {c : List Step} → Rests st l ls c → Moves st (Follows Or) (at Want ored ls (ended l c))
  shuts : {st : State} {l j : Level} {ls : List Level} {c : List Step} → Rests st l (j ∷ ls) c → Moves st (Follows Close) (closed j ls (ended l c))

follow_moves : (st : State) (l : Level) (ls : List Level) (c : List Step) (m : Follow) → Rests st l ls c → next st (Follows m) ≡ next (at Done l ls c) (Follows m) →
    Moves st (Follows m) (next (at Done l ls c) (Follows m)) ⊎ (next (at Done l ls c) (Follows m) ≡ dead)
follow_moves st l ls c And r e = inl (ands r)
follow_moves st l ls c Or r e = inl (ors r)
follow_moves st l [] c Close r e = inr refl
follow_moves st l (j ∷ ls) c Close r e = inl (shuts r)

pub moves : (st : State) (m : Mark) → Moves st m (next st m) ⊎ (next st m ≡ dead)
moves (at Want l ls c) (Leads (Letter f)) = inl names
moves (at Want l ls c) (Leads Not) = inl negates
moves (at Want l ls c) (Leads Open) = inl enters
moves (at (Named f) l ls c) (Compare s) = inl signs
moves (at (Signed f s) l ls c) (Digit k) = cond_both (eqb k 0) _ _ (λ st. Moves (at (Signed f s) l ls c) (Digit k) st ⊎ (st ≡ dead))
    (λ e. inl (zeroes (eqb-true k 0 e))) (λ e. inl (begins (eqb-false k 0 e)))
moves (at (Counting f s v) l ls c) (Digit k) = inl counts
moves (at (Counting f s v) l ls c) (Follows m) = follow_moves _ _ _ _ m counted refl
moves (at Done l ls c) (Follows m) = follow_moves _ _ _ _ m done refl
moves _ _ = inr refl

-- what is written and waits grows by at most one, at a step
pub rests_weight : {st : State} {l : Level} {ls : List Level} {c : List Step} → Rests st l ls c → waits l + wait ls + length c ≤ weight st
rests_weight done = omega arith
rests_weight (counted {f} {s} {v} {l} {ls} {c}) =
    omega (arith, finished_length l (c ++ Test f s v ∷ []), length-append c (Test f s v ∷ []))

move_weight : {st nt : State} {m : Mark} → Moves st m nt → weight nt ≤ weight st + bit (steps m)
move_weight (negates {l} {ls} {c}) = go l.negated
  where
    go : (b : Bool) → 0 + (bit l.either + bit l.both + bit (not b)) + wait ls + length c ≤ 0 + (bit l.either + bit l.both + bit b) + wait ls + length c + 1
    go true = omega arith
    go false = omega arith
move_weight signs = omega arith
move_weight (zeroes {f} {s} {k} {l} {ls} {c} e) = omega (arith, finished_length l (c ++ Test f s 0 ∷ []), length-append c (Test f s 0 ∷ []))
move_weight (ands r) = omega (arith, rests_weight r)
move_weight (ors {st} {l} {ls} {c} r) = omega (arith, rests_weight r, ended_length l c)
move_weight (shuts {st} {l} {j} {ls} {c} r) = omega (arith, rests_weight r, ended_length l c, finished_length j (ended l c))
move_weight _ = omega arith

next_weight : (st : State) (m : Mark) → weight (next st m) ≤ weight st + bit (steps m)
next_weight st m = elim (moves st m) [ inl v ↦ move_weight v | inr e ↦ subst (λ nt. weight nt ≤ weight st + bit (steps m)) (sym e) (omega arith) ]

pub scan_weight : (st : State) (t : List ℕ) → weight (scan st t) ≤ weight st + count step t
scan_weight st [] = omega arith
scan_weight st (b ∷ t) = omega (arith, scan_weight (next st (mark_of b)) t, next_weight st (mark_of b), ap bit (step_same b))

-- the levels that wait are the open brackets
abbrev pub depth : State → ℕ
depth dead = 0
depth (at w l ls c) = length ls

rests_depth : {st : State} {l : Level} {ls : List Level} {c : List Step} → Rests st l ls c → depth st ≡ length ls
rests_depth done = refl
rests_depth counted = refl

pub move_depth : {st nt : State} {m : Mark} → Moves st m nt → depth nt + bit (closes m) ≡ depth st + bit (opens m)
move_depth enters = omega arith
move_depth (ands r) = omega (arith, rests_depth r)
move_depth (ors r) = omega (arith, rests_depth r)
move_depth (shuts r) = omega (arith, rests_depth r)
move_depth _ = refl

pub scan_dead : (p : List ℕ) → scan dead p ≡ dead
scan_dead [] = refl
scan_dead (b ∷ p) = scan_dead p

pub scan-++ : (st : State) (p q : List ℕ) → scan st (p ++ q) ≡ scan (scan st p) q
scan-++ st [] q = refl
scan-++ st (b ∷ p) q = scan-++ (next st (mark_of b)) p q

pub scan_depth : (st : State) (t : List ℕ) → (scan st t ≡ dead → ⊥) → depth (scan st t) + count (eqb 41) t ≡ depth st + count (eqb 40) t
scan_depth st [] a = refl
scan_depth st (b ∷ t) a = elim (moves st (mark_of b)) [
  | inl v ↦ omega (arith, scan_depth (next st (mark_of b)) t a, move_depth v, ap bit (open_same b), ap bit (close_same b))
  | inr e ↦ absurd (a (ap (λ nt. scan nt t) e ∙ scan_dead t))
]
