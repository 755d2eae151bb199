-- What the reader knows before each byte, and why its verdict on the next mark is right.
--
-- Before the byte at i the text has passed up to i, the reader stands where the machine stands, its count is the
-- number of steps so far, and it knows where a number that is being read began. Its verdict looks at the next mark:
-- if the machine would be dead, the byte is unexpected; if a digit makes the number too large, the fault is the
-- number's; if a bracket or a step is one too many, it stands at i. Each is the least fault by what is shown in
-- Passing. Else the text has passed up to i + 1. At the end the machine rests with no bracket open exactly if the
-- text is a rule, and what is written then are the steps of its tree.

use Rattle.std.proofs.Common.{◌≡◌, ℕ, ◌+◌, ◌-◌, ◌*◌, ◌<◌, ◌≤◌, Bool, true, false, cond, ◌&&◌, eqb, ◌⊎◌, List, [], ◌∷◌, ◌++◌, length, get_or, take, Ok, Err, Result, sym, refl, ap, ◌∙◌, subst, inl, inr, arith, length-take-le, take_all}
use Rattle.std.proofs.lemmas.List.{take_more, nil_from_length}
use Rattle.std.proofs.lemmas.Bool.{both_ways, ltb-true, ltb-false, lt-ltb, eqb-true, eqb-false, eq-eqb, and_parts, and_from, cond_both}
use Rattle.std.proofs.lemmas.Bool.Decides.{nat_tests}
use Rattle.cause.specs.declared.Cause.{Cause}
use Rattle.cause.specs.Numbers.{number as listed}
use Rattle.grammar.specs.Grammar.{digit, longest, largest, deepest, most_steps, count, step, IsRule, Least}
use Rattle.rule.specs.declared.fault.TextFault.{TextFault}
use Rattle.rule.specs.declared.text.Lead.TheVariants.{Letter}
use Rattle.rule.specs.declared.text.Follow.{Follow}
use Rattle.rule.specs.declared.text.Follow.TheVariants.{And, Or, Close}
use Rattle.rule.specs.declared.text.Mark.{Mark}
use Rattle.rule.specs.declared.text.Mark.TheVariants.{Lead as Leads, Compare, Digit, Follow as Follows}
use Rattle.rule.specs.declared.steps.Step.{Step}
use Rattle.rule.specs.declared.text.Level.{Level}
use Rattle.rule.specs.declared.text.Mode.{Mode}
use Rattle.rule.specs.declared.text.Mode.TheVariants.{Want, Named, Signed, Counting, Done}
use Rattle.rule.specs.Marks.{mark_of, steps, opens}
use Rattle.rule.specs.Refusing.{expects, is_follow, large, fault, verdict, Allowed, first_digit}
use Rattle.rule.specs.Machine.{State, rested, bit, next, scan, start, settle, weight}
use Rattle.rule.specs.Machine.State.{dead, at}
use Rattle.rule.specs.Stack.{acts, top}
use Rattle.rule.specs.Reads.{ends, Concluded}
use Rattle.rule.specs.Says.{Accepted}
use Rattle.rule.proofs.Bytes.{ByteOf, byte_of, step_same, open_same}
use Rattle.rule.proofs.Moves.{Moves, moves, depth, move_depth, scan-++, scan_weight, scan_depth}
use Rattle.rule.proofs.Moves.Moves.{begins, counts}
use Rattle.rule.proofs.Trees.{Whole, rule_whole, whole_same, post, answers}
use Rattle.rule.proofs.Viable.{Read, read_more, read_none, whole_rule}
use Rattle.rule.proofs.Passing.{counting, Big, Alive, Shallow, Few, Passed, passed_none, passed_more, least_byte, least_bracket, least_step, least_number, least_end, no_fault}

-- a mark is expected exactly if the machine lives on
abbrev lives : State → Bool
lives dead = false
lives (at w l ls c) = true

follow_lives : (l : Level) (ls : List Level) (c : List Step) (m : Follow) → is_follow (Follows m) (length ls) ≡ lives (next (at Done l ls c) (Follows m))
follow_lives l ls c And = refl
follow_lives l ls c Or = refl
follow_lives l [] c Close = refl
follow_lives l (j ∷ ls) c Close = lt-ltb 0 (length (j ∷ ls)) (omega arith)

expects_lives : (w : Mode) (l : Level) (ls : List Level) (c : List Step) (m : Mark) → expects w m (length ls) ≡ lives (next (at w l ls c) m)
expects_lives (Signed f s) l ls c (Digit k) = cond_both (eqb k 0) _ _ (λ st. true ≡ lives st) (λ z. refl) (λ z. refl)
expects_lives (Counting f s v) l ls c (Follows m) = follow_lives (rested l) ls _ m
expects_lives Done l ls c (Follows m) = follow_lives l ls c m
expects_lives Want l ls c (Leads (Letter f)) = refl
expects_lives (Named f) l ls c (Compare s) = refl
expects_lives _ l ls c _ = refl

dead_lives : (st : State) → lives st ≡ false → st ≡ dead
dead_lives dead e = refl
dead_lives (at w l ls c) e = absurd (both_ways true e refl)

lives_alive : (st : State) → lives st ≡ true → st ≡ dead → ⊥
lives_alive st e d = both_ways (lives st) (ap lives d) e

-- after a step or a bracket no number is being read
move_quiet : {st nt : State} {m : Mark} → Moves st m nt → (steps m ≡ true) ⊎ (opens m ≡ true) → counting nt ≡ false
move_quiet (begins e) (inl h) = absurd (both_ways false refl h)
move_quiet (begins e) (inr h) = absurd (both_ways false refl h)
move_quiet counts (inl h) = absurd (both_ways false refl h)
move_quiet counts (inr h) = absurd (both_ways false refl h)
move_quiet _ h = refl

next_quiet : (st : State) (m : Mark) → (steps m ≡ true) ⊎ (opens m ≡ true) → counting (next st m) ≡ false
next_quiet st m h = elim (moves st m) [ inl v ↦ move_quiet v h | inr e ↦ ap counting e ]

-- a mark that is not too large keeps the number small
abbrev grows : State → Mark → Bool
grows dead m = false
grows (at w l ls c) m = large w m

low_digit : (b k : ℕ) → digit b ≡ true → k ≡ b - 48 → k < 10
low_digit b k d e = grind (arith, nat_tests)

move_small : {st nt : State} {m : Mark} (b : ℕ) → Moves st m nt → ByteOf m b → grows st m ≡ false → Big nt → ⊥
move_small b (begins {f} {s} {k} {l} {ls} {c} n) e g h = let y = low_digit b k e.0 e.1 in omega arith
move_small b (counts {f} {s} {v} {k} {l} {ls} {c}) e g h = let y = ltb-false largest (10 * v + k) g in omega arith
move_small b _ e g h = h

next_small : (st : State) (b : ℕ) → grows st (mark_of b) ≡ false → Big (next st (mark_of b)) → ⊥
next_small st b g h = elim (moves st (mark_of b)) [ inl v ↦ move_small b v (byte_of b) g h | inr e ↦ subst Big e h ]

count-++ : (p : ℕ → Bool) (a : List ℕ) (b : ℕ) → count p (a ++ b ∷ []) ≡ count p a + bit (p b)
count-++ p [] b = omega arith
count-++ p (x ∷ a) b = omega (arith, count-++ p a b)

-- one more of a kind that may not pass its limit
pub within : (x : Bool) (n m : ℕ) → n ≤ m → (x && eqb n m) ≡ false → n + bit x ≤ m
within true n m h e = let y = eqb-false n m e in omega arith
within false n m h e = omega arith

-- before the byte at i: the machine is at w l ls c, after n steps, and a number that is being read began at k
pub record Reading (t : List ℕ) (w : Mode) (l : Level) (ls : List Level) (c : List Step) (n k i : ℕ) : Type 0 where
  pub passed : Passed t i
  pub state : scan start (take i t) ≡ at w l ls c
  pub tally : n ≡ count step (take i t)
  pub read : Read (at w l ls c) (take i t) k
  pub few : n ≤ most_steps
  pub deep : length ls ≤ deepest

pub reading_none : (t : List ℕ) (w : Mode) (l : Level) (ls : List Level) (c : List Step) (n k : ℕ) → length t ≤ longest → at w l ls c ≡ start → n ≡ 0 → k ≡ 0 → Reading t w l ls c n k 0
reading_none t w l ls c n k h e a b =
    let z : ls ≡ [] = cc in
    record {
      passed = passed_none t h;
      state = sym e;
      tally = a;
      read = subst (λ st. Read st [] k) (sym e) (subst (Read start []) (sym b) read_none);
      few = omega arith;
      deep = omega (arith, ap length z);
    }

-- what a verdict says
abbrev pub Judged : List ℕ → Mode → Mark → ℕ → ℕ → Result (Unit {0}) TextFault → Type 0
Judged t w m d n (Ok u) = Allowed w m d n
Judged t w m d n (Err e) = Least t (listed e.cause) e.place

module _ (t : List ℕ) (w : Mode) (l : Level) (ls : List Level) (c : List Step) (n k i : ℕ) (r : Reading t w l ls c n k i) where
  pub room : weight (at w l ls c) ≤ n
  room = omega (arith, scan_weight start (take i t), ap weight r.state, r.tally)

  module _ (h : i < length t) (m : Mark) (em : m ≡ mark_of (get_or t i 0)) where
    abbrev b : ℕ
    b = get_or t i 0

    onto : scan start (take (i + 1) t) ≡ next (at w l ls c) m
    onto = ap (scan start) (take_more t i 0 h) ∙ scan-++ start (take i t) (b ∷ []) ∙ ap (λ st. next st (mark_of b)) r.state ∙ ap (next (at w l ls c)) (sym em)

    lives_on : expects w m (length ls) ≡ lives (scan start (take (i + 1) t))
    lives_on = expects_lives w l ls c m ∙ ap lives (sym onto)

    alive_on : expects w m (length ls) ≡ true → Alive t (i + 1)
    alive_on e = lives_alive _ (sym lives_on ∙ e)

    open_depth : length ls + count (eqb 41) (take i t) ≡ count (eqb 40) (take i t)
    open_depth = omega (arith, scan_depth start (take i t) (r.passed.alive i (omega arith)), ap depth r.state)

    open_is : eqb 40 b ≡ opens m
    open_is = open_same b ∙ ap opens (sym em)

    step_is : step b ≡ steps m
    step_is = step_same b ∙ ap steps (sym em)

    shallow_on : (opens m && eqb (length ls) deepest) ≡ false → Shallow t i
    shallow_on e g y = both_ways _ e (and_from _ _ (sym open_is ∙ eq-eqb 40 b (sym g)) (eq-eqb (length ls) deepest (omega (arith, open_depth))))

    few_on : (steps m && eqb n most_steps) ≡ false → Few t i
    few_on e g y = both_ways _ e (and_from _ _ (sym step_is ∙ g) (eq-eqb n most_steps (r.tally ∙ y)))

    read_on : Read (next (at w l ls c) m) (take (i + 1) t) (first_digit m i k)
    read_on =
        let a = read_more (at w l ls c) (take i t) b k r.read in
        let x = subst (λ v. Read (next (at w l ls c) v) (take i t ++ b ∷ []) (first_digit v (length (take i t)) k)) (sym em) a in
        let y = subst (λ v. Read (next (at w l ls c) m) v (first_digit m (length (take i t)) k)) (sym (take_more t i 0 h)) x in
        subst (λ v. Read (next (at w l ls c) m) (take (i + 1) t) (first_digit m v k)) (length-take-le i t (omega arith)) y

    bad_byte : expects w m (length ls) ≡ false → Least t 6 i
    bad_byte e = least_byte t i r.passed h (dead_lives _ (sym lives_on ∙ e))

    bad_number : expects w m (length ls) ≡ true → large w m ≡ true → Least t 7 k
    bad_number e g = go w m g onto read_on
      where
        go : (v : Mode) (x : Mark) → large v x ≡ true → scan start (take (i + 1) t) ≡ next (at v l ls c) x → Read (next (at v l ls c) x) (take (i + 1) t) (first_digit x i k) → Least t 7 k
        go (Counting f y v) (Digit d) g s p =
            subst (Least t 7) (sym p.6) (least_number t i p.0 f y p.1 p.2 p.3 r.passed h (alive_on e) p.4 (omega (arith, p.5, ltb-true largest (10 * v + d) g)))
        go _ _ g s p = absurd (both_ways false refl g)

    bad_bracket : expects w m (length ls) ≡ true → (opens m && eqb (length ls) deepest) ≡ true → Least t 8 i
    bad_bracket e g =
        let p = and_parts _ _ g in
        least_bracket t i r.passed h (alive_on e) (ap counting onto ∙ next_quiet (at w l ls c) m (inr p.0))
        (sym (eqb-true 40 b (open_is ∙ p.0))) (omega (arith, open_depth, eqb-true (length ls) deepest p.1))

    bad_step : expects w m (length ls) ≡ true → (opens m && eqb (length ls) deepest) ≡ false → (steps m && eqb n most_steps) ≡ true → Least t 9 i
    bad_step e g s =
        let p = and_parts _ _ s in
        least_step t i r.passed h (alive_on e) (ap counting onto ∙ next_quiet (at w l ls c) m (inl p.0))
        (shallow_on g) (step_is ∙ p.0) (sym r.tally ∙ eqb-true n most_steps p.1)

    -- the verdict is right
    pub judged : Judged t w m (length ls) n (verdict w m (length ls) n i k)
    judged =
        let P = Judged t w m (length ls) n in
        cond_both (expects w m (length ls)) _ _ P
        (λ e. cond_both (large w m) _ _ P (λ g. bad_number e g)
        (λ g. cond_both (opens m && eqb (length ls) deepest) _ _ P (λ o. bad_bracket e o)
        (λ o. cond_both (steps m && eqb n most_steps) _ _ P (λ s. bad_step e o s)
        (λ s. record { expected = e; small = g; shallow = o; few = s }))))
        (λ e. bad_byte e)

    pub next_alive : Allowed w m (length ls) n → (v : Mode) × (j : Level) × (js : List Level) × (d : List Step) × (next (at w l ls c) m ≡ at v j js d)
    next_alive a = go (next (at w l ls c) m) (λ e. alive_on a.expected (onto ∙ e))
      where
        go : (st : State) → (st ≡ dead → ⊥) → (v : Mode) × (j : Level) × (js : List Level) × (d : List Step) × (st ≡ at v j js d)
        go dead e = absurd (e refl)
        go (at v j js d) e = (v, j, js, d, refl)

    -- one byte more
    pub reading_more : Allowed w m (length ls) n → (v : Mode) (j : Level) (js : List Level) (d : List Step) (o q : ℕ) → at v j js d ≡ next (at w l ls c) m →
        o ≡ n + bit (steps m) → q ≡ first_digit m i k → Reading t v j js d o q (i + 1)
    reading_more a v j js d o q es eo eq = record {
      passed = passed_more t i r.passed h (alive_on a.expected) (λ y. next_small (at w l ls c) b (ap (large w) (sym em) ∙ a.small) (subst Big (onto ∙ ap (next (at w l ls c)) em) y))
          (shallow_on a.shallow) (few_on a.few);
      state = onto ∙ sym es;
      tally = omega (arith, eo, r.tally, ap (count step) (take_more t i 0 h), count-++ step (take i t) b, ap bit step_is);
      read = subst (λ st. Read st (take (i + 1) t) q) (sym es) (subst (Read (next (at w l ls c) m) (take (i + 1) t)) (sym eq) read_on);
      few = omega (arith, eo, within (steps m) n most_steps r.few a.few);
      deep = elim (moves (at w l ls c) m) [
        | inl x ↦ omega (arith, move_depth x, ap depth es, within (opens m) (length ls) deepest r.deep a.shallow)
        | inr x ↦ absurd (alive_on a.expected (onto ∙ x))
      ];
    }

-- the end of the text
module _ (t : List ℕ) (w : Mode) (l : Level) (ls : List Level) (c : List Step) (n k i : ℕ) (r : Reading t w l ls c n k i) (e : i ≡ length t) where
  state_all : scan start t ≡ at w l ls c
  state_all = sym (ap (scan start) (ap (λ v. take v t) e ∙ take_all (length t) t (omega arith))) ∙ r.state

  passed_all : Passed t (length t)
  passed_all = subst (Passed t) e r.passed

  -- a rule's text ends after a factor, with no bracket open
  pub bad_end : (ends w && eqb (length ls) 0) ≡ false → Least t 6 (length t)
  bad_end a = least_end t passed_all (λ u.
      let x = rule_whole u.0 in
      let y = sym (ap settle (ap (scan start) u.1 ∙ state_all)) ∙ x.is in
      both_ways _ a (and_from _ _ (go w x.waiting x.said y) (eq-eqb _ 0 (depth_none w (ap depth y)))))
    where
      go : (v : Mode) (o : Level) (s : List Step) → settle (at v l ls c) ≡ at Done o [] s → ends v ≡ true
      go (Counting f x v) o s q = refl
      go Done o s q = refl
      go _ o s q = absurd (let z : ◌≡◌ {A = ℕ} 0 1 = cc in omega arith)

      depth_none : (v : Mode) → depth (settle (at v l ls c)) ≡ 0 → length ls ≡ 0
      depth_none (Counting f x v) q = q
      depth_none _ q = q

  -- the steps at the end answer what the text means
  pub granted : (d : List Step) → length ls ≡ 0 → Concluded (at w l ls c) ls d → Accepted t (λ x. top (acts x d 0))
  granted d z q =
      let v : settle (scan start t) ≡ at Done q.waiting [] q.said =
      ap settle state_all ∙ q.is ∙ ap (λ y. at Done q.waiting y q.said) (nil_from_length ls z) in
      let u : IsRule t = whole_rule t _ _ v in
      let o : Whole (scan start t) d = record { waiting = q.waiting; said = q.said; is = v; steps = q.steps } in
      record {
        sound = no_fault t passed_all u;
        means = record {
          text = u;
          meaning = λ s p x.
              let y : post false s ≡ d = whole_same (scan start t) (post false s) d (subst (λ y. Whole (scan start y) (post false s)) p (rule_whole s)) o in
              sym (answers s x) ∙ ap (λ y. top (acts x y 0)) y;
        };
      }

-- a fault that is returned is the least
abbrev pub Right : List ℕ → Result (Unit {0}) TextFault → Type 0
Right t (Ok u) = Unit {0}
Right t (Err e) = Least t (listed e.cause) e.place

pub refused : (t : List ℕ) (w : Bool) (c : Cause) (i : ℕ) → (w ≡ true → Least t (listed c) i) → Right t (cond w (fault c i) (Ok tt))
refused t true c i h = h refl
refused t false c i h = tt

never : {e : TextFault} → ◌≡◌ {A = Result (Unit {0}) TextFault} (Err e) (Ok tt) → ⊥
never q = let z : ◌≡◌ {A = ℕ} 0 1 = cc in omega arith

pub let_on : (w : Bool) (c : Cause) (i : ℕ) → Ok tt ≡ cond w (fault c i) (Ok tt) → w ≡ false
let_on true c i e = absurd (never (sym e))
let_on false c i e = refl

-- a mark with nothing against it
pub allowed_if : (w : Mode) (m : Mark) (d n i k : ℕ) → verdict w m d n i k ≡ Ok tt → Allowed w m d n
allowed_if w m d n i k =
    let P : Result (Unit {0}) TextFault → Type 0 = λ r. r ≡ Ok tt → Allowed w m d n in
    cond_both (expects w m d) _ _ P
    (λ e. cond_both (large w m) _ _ P (λ g q. absurd (never q))
    (λ g. cond_both (opens m && eqb d deepest) _ _ P (λ o q. absurd (never q))
    (λ o. cond_both (steps m && eqb n most_steps) _ _ P (λ s q. absurd (never q))
    (λ s q. record { expected = e; small = g; shallow = o; few = s }))))
    (λ e q. absurd (never q))
