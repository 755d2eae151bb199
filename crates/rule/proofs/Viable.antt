-- Wherever the machine is alive, the text so far begins some rule.
--
-- With every state goes what the text so far may still become. Where a factor is wanted, any factor may come; within
-- a test, the factor is that test; after a factor, the text is a rule, or a bracket is open, what stands inside it is
-- a rule, and any factor may come in the bracket's place. Each move keeps this. So from every state the test c=0 and
-- the brackets that are missing complete a rule; and a state after a factor with no bracket open has read a rule.

use Rattle.std.proofs.Common.{◌≡◌, ℕ, ◌+◌, ◌-◌, ◌*◌, Bool, true, T, List, [], ◌∷◌, ◌++◌, length, sym, refl, ap, ◌∙◌, subst, inl, inr, append_assoc, append-nil, arith, length-append}
use Rattle.std.proofs.lemmas.Bool.Decides.{nat_tests}
use Rattle.grammar.specs.declared.Field.TheVariants.{Class}
use Rattle.grammar.specs.declared.Sign.TheVariants.{Equal}
use Rattle.grammar.specs.Grammar.{digit, leading, Digits, Tree, letter, sign, digits, number, spell, value, IsRule, Begins}
use Rattle.grammar.specs.Grammar.Digits.{none, more}
use Rattle.grammar.specs.Grammar.Number.{nought, figures}
use Rattle.grammar.specs.Grammar.Sort.{rule, factor}
use Rattle.grammar.specs.Grammar.Tree.{one, or, sole, neg, group, test}
use Rattle.grammar.proofs.Joining.{either, either_spelled, both, both_spelled}
use Rattle.rule.specs.declared.text.Mark.{Mark}
use Rattle.rule.specs.declared.steps.Step.{Step}
use Rattle.rule.specs.declared.text.Level.{Level}
use Rattle.rule.specs.declared.text.Mode.TheVariants.{Want, Named, Signed, Counting, Done}
use Rattle.rule.specs.Marks.{mark_of}
use Rattle.rule.specs.Refusing.{first_digit}
use Rattle.rule.specs.Machine.{State, next, scan, start, settle}
use Rattle.rule.specs.Machine.State.{dead, at}
use Rattle.rule.proofs.Bytes.{ByteOf, byte_of}
use Rattle.rule.proofs.Moves.{Rests, Moves, moves}
use Rattle.rule.proofs.Moves.Rests.{done, counted}
use Rattle.rule.proofs.Moves.Moves.{names, negates, enters, signs, zeroes, begins, counts, ands, ors, shuts}

-- the text p, which ends with a factor, with a bracket open for each level
abbrev pub Fed : List Level → List ℕ → Type 0
Fed [] p = IsRule p
Fed (l ∷ ls) p = (q : List ℕ) × (r : Tree rule) × (p ≡ q ++ 40 ∷ spell r) × ((x : Tree factor) → Fed ls (q ++ spell x))

-- after the text p any factor may come
abbrev pub Wants : List Level → List ℕ → Type 0
Wants ls p = (x : Tree factor) → Fed ls (p ++ spell x)

-- a state after the text p; a number that is being read began at the place k
abbrev pub Read : State → List ℕ → ℕ → Type 0
Read dead p k = Unit {0}
Read (at Want l ls c) p k = Wants ls p
Read (at (Named f) l ls c) p k = (q : List ℕ) × (p ≡ q ++ letter f ∷ []) × Wants ls q
Read (at (Signed f s) l ls c) p k = (q : List ℕ) × (p ≡ q ++ letter f ∷ (sign s ∷ [])) × (k ≡ length q + 2) × Wants ls q
Read (at (Counting f s v) l ls c) p k = (q : List ℕ) × (b : ℕ) × (h : T (leading b)) × (d : Digits)
    × (p ≡ q ++ letter f ∷ (sign s ∷ (b ∷ digits d))) × (value (b - 48) d ≡ v) × (k ≡ length q + 2) × Wants ls q
Read (at Done l ls c) p k = Fed ls p

-- one digit more
push : Digits → (b : ℕ) → T (digit b) → Digits
push none b h = more b h none
push (more a g d) b h = more a g (push d b h)

push_digits : (d : Digits) (b : ℕ) (h : T (digit b)) → digits (push d b h) ≡ digits d ++ b ∷ []
unfolding push
push_digits none b h = refl
push_digits (more a g d) b h = ap (λ v. a ∷ v) (push_digits d b h)

push_value : (v : ℕ) (d : Digits) (b : ℕ) (h : T (digit b)) → value v (push d b h) ≡ 10 * value v d + (b - 48)
unfolding push
push_value v none b h = refl
push_value v (more a g d) b h = push_value (10 * v + (a - 48)) d b h

-- a rule grows by & or | and a factor
abbrev and_last : Tree rule → Tree factor → Tree rule
and_last (one t) x = one (both t (sole x))
and_last (or t r) x = or t (and_last r x)

and_spelled : (r : Tree rule) (x : Tree factor) → spell (and_last r x) ≡ spell r ++ 38 ∷ spell x
and_spelled (one t) x = both_spelled t (sole x)
and_spelled (or t r) x = ap (λ v. spell t ++ 124 ∷ v) (and_spelled r x) ∙ sym (append_assoc (spell t) (124 ∷ spell r) (38 ∷ spell x))

grows : (ls : List Level) (p y : List ℕ) (g : Tree rule → Tree rule) → ((r : Tree rule) → spell (g r) ≡ spell r ++ y) → Fed ls p → Fed ls (p ++ y)
grows [] p y g e h = (g h.0, e h.0 ∙ ap (λ v. v ++ y) h.1)
grows (l ∷ ls) p y g e h = (
  h.0,
  g h.1,
  ap (λ v. v ++ y) h.2 ∙ append_assoc h.0 (40 ∷ spell h.1) y ∙ ap (λ v. h.0 ++ 40 ∷ v) (sym (e h.1)),
  h.3,
)

leaves : (l : Level) (ls : List Level) (p : List ℕ) → Fed (l ∷ ls) p → Fed ls (p ++ 41 ∷ [])
leaves l ls p h = subst (Fed ls) (sym (ap (λ v. v ++ 41 ∷ []) h.2 ∙ append_assoc h.0 (40 ∷ spell h.1) (41 ∷ []))) (h.3 (group h.1))

-- the byte b, known to be y, and then more
and_then : (ls : List Level) (p z : List ℕ) (b y : ℕ) → b ≡ y → Fed ls (p ++ y ∷ z) → Fed ls ((p ++ b ∷ []) ++ z)
and_then ls p z b y e h = subst (Fed ls) (ap (λ v. p ++ v ∷ z) (sym e) ∙ sym (append_assoc p (b ∷ []) z)) h

T-from : (b : Bool) → b ≡ true → T b
T-from b e = subst T (sym e) tt

first_leads : (b k : ℕ) → digit b ≡ true → k ≡ b - 48 → (k ≡ 0 → ⊥) → leading b ≡ true
first_leads b k d e n = grind (arith, nat_tests)

first_zero : (b k : ℕ) → digit b ≡ true → k ≡ b - 48 → k ≡ 0 → b ≡ 48
first_zero b k d e n = grind (arith, nat_tests)

rests_fed : {st : State} {l : Level} {ls : List Level} {c : List Step} (p : List ℕ) (k : ℕ) → Rests st l ls c → Read st p k → Fed ls p
rests_fed p k done h = h
rests_fed p k (counted {f} {s} {v} {l} {ls} {c}) h = subst (Fed ls) (sym h.4) (h.7 (test f s (figures h.1 h.2 h.3)))

move_read : {st nt : State} {m : Mark} (p : List ℕ) (b i : ℕ) → Moves st m nt → ByteOf m b → Read st p i → Read nt (p ++ b ∷ []) (first_digit m (length p) i)
move_read p b i (names {f} {l} {ls} {c}) e h = (p, ap (λ v. p ++ v ∷ []) e, h)
move_read p b i (negates {l} {ls} {c}) e h = λ x. and_then ls p (spell x) b 33 e (h (neg x))
move_read p b i (enters {l} {ls} {c}) e h = λ x. (p, one (sole x), append_assoc p (b ∷ []) (spell x) ∙ ap (λ v. p ++ v ∷ spell x) e, h)
move_read p b i (signs {f} {s} {l} {ls} {c}) e h = (
  h.0,
  ap (λ v. p ++ v ∷ []) e ∙ ap (λ v. v ++ sign s ∷ []) h.1 ∙ append_assoc h.0 (letter f ∷ []) (sign s ∷ []),
  omega (arith, ap length h.1, length-append h.0 (letter f ∷ [])),
  h.2,
)
move_read p b i (zeroes {f} {s} {k} {l} {ls} {c} z) e h =
    subst (Fed ls) (sym (ap (λ v. p ++ v ∷ []) (first_zero b k e.0 e.1 z) ∙ ap (λ v. v ++ 48 ∷ []) h.1 ∙ append_assoc h.0 (letter f ∷ (sign s ∷ [])) (48 ∷ [])))
    (h.3 (test f s nought))
move_read p b i (begins {f} {s} {k} {l} {ls} {c} n) e h = (
  h.0,
  b,
  T-from _ (first_leads b k e.0 e.1 n),
  none,
  ap (λ v. v ++ b ∷ []) h.1 ∙ append_assoc h.0 (letter f ∷ (sign s ∷ [])) (b ∷ []),
  sym e.1,
  h.2,
  h.3,
)
move_read p b i (counts {f} {s} {v} {k} {l} {ls} {c}) e h =
    let g = T-from _ e.0 in (
      h.0,
      h.1,
      h.2,
      push h.3 b g,
      ap (λ w. w ++ b ∷ []) h.4 ∙ append_assoc h.0 (letter f ∷ (sign s ∷ (h.1 ∷ digits h.3))) (b ∷ [])
          ∙ ap (λ w. h.0 ++ letter f ∷ (sign s ∷ (h.1 ∷ w))) (sym (push_digits h.3 b g)),
      push_value (h.1 - 48) h.3 b g ∙ omega (arith, h.5, e.1),
      h.6,
      h.7,
    )
move_read p b i (ands {st} {l} {ls} {c} r) e h = λ x.
    and_then ls p (spell x) b 38 e (grows ls p (38 ∷ spell x) (λ r. and_last r x) (λ r. and_spelled r x) (rests_fed p i r h))
move_read p b i (ors {st} {l} {ls} {c} r) e h = λ x.
    and_then ls p (spell x) b 124 e (grows ls p (124 ∷ spell x) (λ r. either r (one (sole x))) (λ r. either_spelled r (one (sole x))) (rests_fed p i r h))
move_read p b i (shuts {st} {l} {j} {ls} {c} r) e h =
    subst (λ v. Fed ls (p ++ v ∷ [])) (sym e) (leaves j ls p (rests_fed p i r h))

pub read_more : (st : State) (p : List ℕ) (b k : ℕ) → Read st p k → Read (next st (mark_of b)) (p ++ b ∷ []) (first_digit (mark_of b) (length p) k)
read_more st p b k h = elim (moves st (mark_of b)) [
  | inl v ↦ move_read p b k v (byte_of b) h
  | inr e ↦ subst (λ nt. Read nt (p ++ b ∷ []) (first_digit (mark_of b) (length p) k)) (sym e) tt
]

pub read_none : Read start [] 0
read_none = λ x. (one (sole x), refl)

read_all : (st : State) (p t : List ℕ) (k : ℕ) → Read st p k → (j : ℕ) × Read (scan st t) (p ++ t) j
read_all st p [] k h = (k, subst (λ v. Read st v k) (sym (append-nil p)) h)
read_all st p (b ∷ t) k h =
    let i = read_all (next st (mark_of b)) (p ++ b ∷ []) t _ (read_more st p b k h) in
    (i.0, subst (λ v. Read (scan (next st (mark_of b)) t) v i.0) (append_assoc p (b ∷ []) t) i.1)

-- whatever the state, some text completes a rule
begins_front : (p y : List ℕ) → Begins (p ++ y) → Begins p
begins_front p y h = (y ++ h.0, (h.1.0, h.1.1 ∙ append_assoc p y h.0))

fed_begins : (ls : List Level) (p : List ℕ) → Fed ls p → Begins p
fed_begins [] p h = ([], (h.0, h.1 ∙ sym (append-nil p)))
fed_begins (l ∷ ls) p h = begins_front p (41 ∷ []) (fed_begins ls (p ++ 41 ∷ []) (leaves l ls p h))

test_begins : (ls : List Level) (q p y : List ℕ) (x : Tree factor) → Wants ls q → q ++ spell x ≡ p ++ y → Begins p
test_begins ls q p y x h e = begins_front p y (subst Begins e (fed_begins ls (q ++ spell x) (h x)))

read_begins : (st : State) (p : List ℕ) (k : ℕ) → Read st p k → (st ≡ dead → ⊥) → Begins p
read_begins dead p k h a = absurd (a refl)
read_begins (at Want l ls c) p k h a = test_begins ls p p _ (test Class Equal nought) h refl
read_begins (at (Named f) l ls c) p k h a = test_begins ls h.0 p (sign Equal ∷ number nought) (test f Equal nought) h.2
    (sym (ap (λ v. v ++ sign Equal ∷ number nought) h.1 ∙ append_assoc h.0 _ _))
read_begins (at (Signed f s) l ls c) p k h a = test_begins ls h.0 p (number nought) (test f s nought) h.3
    (sym (ap (λ v. v ++ number nought) h.1 ∙ append_assoc h.0 _ _))
read_begins (at (Counting f s v) l ls c) p k h a = fed_begins ls p (rests_fed p k (counted {f = f} {s = s} {v = v} {l = l} {ls = ls} {c = c}) h)
read_begins (at Done l ls c) p k h a = fed_begins ls p h

pub alive_begins : (t : List ℕ) → (scan start t ≡ dead → ⊥) → Begins t
alive_begins t a = let i = read_all start [] t 0 read_none in read_begins (scan start t) t i.0 i.1 a

-- a state that rests with no bracket open has read a rule
fed_rule : (ls : List Level) (p : List ℕ) → ls ≡ [] → Fed ls p → IsRule p
fed_rule [] p e h = h
fed_rule (l ∷ ls) p e h = absurd (let z : ◌≡◌ {A = ℕ} 0 1 = cc in omega arith)

read_rule : (st : State) (p : List ℕ) (k : ℕ) (l : Level) (c : List Step) → Read st p k → settle st ≡ at Done l [] c → IsRule p
read_rule (at (Counting f s v) m ls e) p k l c h w = fed_rule ls p (cc) (rests_fed p k (counted {f = f} {s = s} {v = v} {l = m} {ls = ls} {c = e}) h)
read_rule (at Done m ls e) p k l c h w = fed_rule ls p (cc) h
read_rule _ p k l c h w = absurd (let z : ◌≡◌ {A = ℕ} 0 1 = cc in omega arith)

pub whole_rule : (t : List ℕ) (l : Level) (c : List Step) → settle (scan start t) ≡ at Done l [] c → IsRule t
whole_rule t l c w = let i = read_all start [] t 0 read_none in read_rule (scan start t) t i.0 l c i.1 w
