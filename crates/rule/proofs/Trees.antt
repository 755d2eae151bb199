-- What the machine does with the text of a tree.
--
-- Along the spelling of a factor it writes the factor's steps, then what waited for it; so by induction along a term
-- and a rule. The steps of a tree put its meaning on the stack: a test puts its answer there, and each operator
-- replaces the answers of its parts. So at the end of a rule's text the steps answer what the rule says.

use Rattle.std.proofs.Common.{◌≡◌, ℕ, ◌+◌, ◌-◌, ◌*◌, ◌/◌, Bool, true, false, cond, not, ◌&&◌, ◌||◌, T, eqb, List, [], ◌∷◌, ◌++◌, sym, refl, ap, ◌∙◌, append_assoc, arith}
use Rattle.std.proofs.lemmas.Bool.{cond-false}
use Rattle.std.proofs.lemmas.Bool.Decides.{nat_tests}
use Rattle.grammar.specs.declared.Field.{Field}
use Rattle.grammar.specs.declared.Sign.{Sign}
use Rattle.grammar.specs.declared.Description.{Description}
use Rattle.grammar.specs.Grammar.{digit, leading, Digits, Number, Sort, Tree, letter, sign, digits, number, spell, value, amount, holds, Begins}
use Rattle.grammar.specs.Grammar.Digits.{none, more}
use Rattle.grammar.specs.Grammar.Number.{nought, figures}
use Rattle.grammar.specs.Grammar.Sort.{rule, term, factor}
use Rattle.grammar.specs.Grammar.Tree.{one, or, sole, and, neg, group, test}
use Rattle.rule.specs.declared.text.Lead.TheVariants.{Letter}
use Rattle.rule.specs.declared.text.Follow.{Follow}
use Rattle.rule.specs.declared.text.Follow.TheVariants.{And, Or, Close}
use Rattle.rule.specs.declared.text.Mark.TheVariants.{Lead as Leads, Compare, Follow as Follows}
use Rattle.rule.specs.declared.steps.Step.{Step}
use Rattle.rule.specs.declared.steps.Step.TheVariants.{Test, Negate, Both, Either}
use Rattle.rule.specs.declared.text.Level.{Level}
use Rattle.rule.specs.declared.text.Mode.TheVariants.{Want, Signed, Counting, Done}
use Rattle.rule.specs.Marks.{mark_of}
use Rattle.rule.specs.Stack.{onto, top, acts}
use Rattle.rule.specs.Machine.{State, fresh, rested, step_if, ended, closed, next, scan, start, settle}
use Rattle.rule.specs.Machine.State.{dead, at}
use Rattle.rule.proofs.Bytes.{mark_letter, mark_sign, mark_digit}
use Rattle.rule.proofs.Moves.{scan-++, scan_dead}
use Rattle.rule.proofs.Stacks.{top_onto, under_onto, acts-++}

-- the steps of a tree, where an earlier part (or, for a factor, a !) waits for it or not
abbrev pub post : {s : Sort} → Bool → Tree s → List Step
post o (one t) = post false t ++ step_if o Either
post o (or t r) = post false t ++ (step_if o Either ++ post true r)
post b (sole f) = post false f ++ step_if b Both
post b (and f t) = post false f ++ (step_if b Both ++ post true t)
post n (neg f) = post (not n) f
post n (group r) = post false r ++ step_if n Negate
post n (test f s k) = Test f s (amount k) ∷ step_if n Negate

-- what follows a factor finds a number complete
pub settled : (st : State) (m : Follow) → next st (Follows m) ≡ next (settle st) (Follows m)
settled (at (Counting f s v) l ls c) m = refl
settled _ m = refl

pub T_true : (b : Bool) → T b → b ≡ true
T_true true h = refl
T_true false h = absurd h

leading_digit : (b : ℕ) → leading b ≡ true → digit b ≡ true
leading_digit b h = grind (arith, nat_tests)

leading_some : (b : ℕ) → leading b ≡ true → eqb (b - 48) 0 ≡ false
leading_some b h = grind (arith, nat_tests)

pub scan_signed : (f : Field) (s : Sign) (st : State) → next (next st (mark_of (letter f))) (mark_of (sign s)) ≡ next (next st (Leads (Letter f))) (Compare s)
scan_signed f s st = ap (λ m. next (next st m) (mark_of (sign s))) (mark_letter f) ∙ ap (next (next st _)) (mark_sign s)

module _ (f : Field) (s : Sign) (l : Level) (ls : List Level) (c : List Step) where
  pub scan_digits : (v : ℕ) (d : Digits) → scan (at (Counting f s v) l ls c) (digits d) ≡ at (Counting f s (value v d)) l ls c
  scan_digits v none = refl
  scan_digits v (more b h d) = ap (λ m. scan (next (at (Counting f s v) l ls c) m) (digits d)) (mark_digit b (T_true _ h)) ∙ scan_digits (10 * v + (b - 48)) d

  pub scan_first : (b : ℕ) → T (leading b) → next (at (Signed f s) l ls c) (mark_of b) ≡ at (Counting f s (b - 48)) l ls c
  scan_first b h =
      ap (next (at (Signed f s) l ls c)) (mark_digit b (leading_digit b (T_true _ h))) ∙ cond-false _ _ _ (leading_some b (T_true _ h))

  scan_number : (n : Number) → settle (scan (at (Signed f s) l ls c) (number n)) ≡ closed l ls (c ++ Test f s (amount n) ∷ [])
  scan_number nought = refl
  scan_number (figures b h d) = ap (λ st. settle (scan st (digits d))) (scan_first b h) ∙ ap settle (scan_digits (b - 48) d)

  scan_test : (n : Number) → settle (scan (at Want l ls c) (spell (test f s n))) ≡ closed l ls (c ++ Test f s (amount n) ∷ [])
  scan_test n = ap (λ st. settle (scan st (number n))) (scan_signed f s (at Want l ls c)) ∙ scan_number n

-- reading on after a complete factor
follow_on : (st : State) (m : Follow) (l : Level) (ls : List Level) (c : List Step) → settle st ≡ at Done l ls c → next st (Follows m) ≡ next (at Done l ls c) (Follows m)
follow_on st m l ls c e = settled st m ∙ ap (λ v. next v (Follows m)) e

abbrev Claim : (s : Sort) → Tree s → Type 0
Claim rule r = (o : Bool) (ls : List Level) (c : List Step) →
    (u : Bool) × (e : List Step)
    × (settle (scan (at Want (record { either = o; both = false; negated = false }) ls c) (spell r)) ≡ at Done (record { either = u; both = false; negated = false }) ls e)
    × (e ++ step_if u Either ≡ c ++ post o r)
Claim term t = (o b : Bool) (ls : List Level) (c : List Step) →
    settle (scan (at Want (record { either = o; both = b; negated = false }) ls c) (spell t)) ≡ at Done (record { either = o; both = false; negated = false }) ls (c ++ post b t)
Claim factor f = (l : Level) (ls : List Level) (c : List Step) →
    settle (scan (at Want l ls c) (spell f)) ≡ at Done (rested l) ls (c ++ (post l.negated f ++ step_if l.both Both))

pub reads : (s : Sort) (t : Tree s) → Claim s t
reads rule (one t) = λ o ls c. (o, c ++ post false t, reads term t o false ls c, append_assoc c (post false t) (step_if o Either))
reads rule (or t r) = λ o ls c.
    let w = at Want (record { either = o; both = false; negated = false }) ls c in
    let i = reads rule r true ls ((c ++ post false t) ++ step_if o Either) in (
      i.0,
      i.1,
      ap settle (scan-++ w (spell t) (124 ∷ spell r))
          ∙ ap (λ st. settle (scan st (spell r))) (follow_on (scan w (spell t)) Or _ _ _ (reads term t o false ls c))
          ∙ i.2,
      i.3 ∙ simp append_assoc,
    )
reads term (sole f) = λ o b ls c. reads factor f (record { either = o; both = b; negated = false }) ls c
reads term (and f t) = λ o b ls c.
    let w = at Want (record { either = o; both = b; negated = false }) ls c in
    ap settle (scan-++ w (spell f) (38 ∷ spell t))
    ∙ ap (λ st. settle (scan st (spell t))) (follow_on (scan w (spell f)) And _ _ _ (reads factor f (record { either = o; both = b; negated = false }) ls c))
    ∙ reads term t o true ls (c ++ (post false f ++ step_if b Both))
    ∙ ap (at Done (record { either = o; both = false; negated = false }) ls) (simp append_assoc)
reads factor (neg f) = λ l ls c. reads factor f (record { either = l.either; both = l.both; negated = not l.negated }) ls c
reads factor (group r) = λ l ls c.
    let i = reads rule r false (l ∷ ls) c in
    let w = at Want fresh (l ∷ ls) c in
    ap settle (scan-++ w (spell r) (41 ∷ []))
    ∙ ap settle (follow_on (scan w (spell r)) Close _ _ _ i.2)
    ∙ ap (closed l ls) i.3
    ∙ ap (at Done (rested l) ls) (simp append_assoc)
reads factor (test f s n) = λ l ls c.
    scan_test f s l ls c n ∙ ap (at Done (rested l) ls) (simp append_assoc)

-- the state at the end of a rule, and the steps then written
pub record Whole (st : State) (c : List Step) : Type 0 where
  pub waiting : Level
  pub said : List Step
  pub is : settle st ≡ at Done waiting [] said
  pub steps : ended waiting said ≡ c

pub rule_whole : (r : Tree rule) → Whole (scan start (spell r)) (post false r)
rule_whole r = let i = reads rule r false [] [] in record { waiting = record { either = i.0; both = false; negated = false }; said = i.1; is = i.2; steps = i.3 }

pub whole_alive : (st : State) (c : List Step) → Whole st c → st ≡ dead → ⊥
whole_alive st c w e = never (sym (ap settle e) ∙ w.is)
  where
    never : {l : Level} {ls : List Level} {c : List Step} → dead ≡ at Done l ls c → ⊥
    never e = let z : ◌≡◌ {A = ℕ} 0 1 = cc in omega arith

-- what begins a rule leaves the machine alive
pub begins_alive : (t : List ℕ) → Begins t → scan start t ≡ dead → ⊥
begins_alive t h e = whole_alive _ _ (rule_whole h.1.0)
    (ap (scan start) h.1.1 ∙ scan-++ start t h.0 ∙ ap (λ st. scan st h.0) e ∙ scan_dead h.0)

pub whole_same : (st : State) (c d : List Step) → Whole st c → Whole st d → c ≡ d
whole_same st c d v w =
    let e : at Done v.waiting [] v.said ≡ at Done w.waiting [] w.said = sym v.is ∙ w.is in
    let a : v.said ≡ w.said = cc in
    let b : v.waiting ≡ w.waiting = cc in
    sym v.steps ∙ ap (λ (l : Level). ended l v.said) b ∙ ap (ended w.waiting) a ∙ w.steps

-- an answer below another, if one waits
abbrev base : Bool → Bool → ℕ → ℕ
base b a p = cond b (onto a p) p

module _ (x : Description) where
  negated : (n v : Bool) (p : ℕ) → acts x (step_if n Negate) (onto v p) ≡ onto (cond n (not v) v) p
  negated false v p = refl
  negated true v p = ap (λ w. onto (not w) (onto v p / 2)) (top_onto v p) ∙ ap (onto (not v)) (under_onto v p)

  two : (a v : Bool) (p : ℕ) (g : Bool → Bool → Bool) → onto (g (top (onto v (onto a p) / 2)) (top (onto v (onto a p)))) (onto v (onto a p) / 2 / 2) ≡ onto (g a v) p
  two a v p g =
      let u : onto v (onto a p) / 2 ≡ onto a p = under_onto v (onto a p) in
      ap (λ w. onto (g (top (onto v (onto a p) / 2)) w) (onto v (onto a p) / 2 / 2)) (top_onto v (onto a p))
      ∙ ap (λ q. onto (g (top q) v) (q / 2)) u
      ∙ ap (λ w. onto (g w v) (onto a p / 2)) (top_onto a p)
      ∙ ap (onto (g a v)) (under_onto a p)

  met : (b a v : Bool) (p : ℕ) → acts x (step_if b Both) (onto v (base b a p)) ≡ onto (cond b (a && v) v) p
  met false a v p = refl
  met true a v p = two a v p (λ y z. y && z)

  joined : (b a v : Bool) (p : ℕ) → acts x (step_if b Either) (onto v (base b a p)) ≡ onto (cond b (a || v) v) p
  joined false a v p = refl
  joined true a v p = two a v p (λ y z. y || z)

  abbrev Meant : (s : Sort) → Tree s → Type 0
  Meant rule r = (o a : Bool) (p : ℕ) → acts x (post o r) (base o a p) ≡ onto (cond o (a || holds r x) (holds r x)) p
  Meant term t = (b a : Bool) (p : ℕ) → acts x (post b t) (base b a p) ≡ onto (cond b (a && holds t x) (holds t x)) p
  Meant factor f = (n : Bool) (p : ℕ) → acts x (post n f) p ≡ onto (cond n (not (holds f x)) (holds f x)) p

  or_on : (o a v w : Bool) → (cond o (a || v) v || w) ≡ cond o (a || (v || w)) (v || w)
  or_on true true v w = refl
  or_on true false v w = refl
  or_on false a v w = refl

  and_on : (b a v w : Bool) → (cond b (a && v) v && w) ≡ cond b (a && (v && w)) (v && w)
  and_on true true v w = refl
  and_on true false v w = refl
  and_on false a v w = refl

  not_on : (n v : Bool) → cond (not n) (not v) v ≡ cond n (not (not v)) (not v)
  not_on true true = refl
  not_on true false = refl
  not_on false v = refl

  meant : (s : Sort) (t : Tree s) → Meant s t
  meant rule (one t) = λ o a p. acts-++ x (post false t) _ _ ∙ ap (acts x (step_if o Either)) (meant term t false false (base o a p)) ∙ joined o a (holds t x) p
  meant rule (or t r) = λ o a p.
      acts-++ x (post false t) _ _ ∙ ap (acts x (step_if o Either ++ post true r)) (meant term t false false (base o a p))
      ∙ acts-++ x (step_if o Either) _ _ ∙ ap (acts x (post true r)) (joined o a (holds t x) p)
      ∙ meant rule r true (cond o (a || holds t x) (holds t x)) p ∙ ap (λ v. onto v p) (or_on o a (holds t x) (holds r x))
  meant term (sole f) = λ b a p. acts-++ x (post false f) _ _ ∙ ap (acts x (step_if b Both)) (meant factor f false (base b a p)) ∙ met b a (holds f x) p
  meant term (and f t) = λ b a p.
      acts-++ x (post false f) _ _ ∙ ap (acts x (step_if b Both ++ post true t)) (meant factor f false (base b a p))
      ∙ acts-++ x (step_if b Both) _ _ ∙ ap (acts x (post true t)) (met b a (holds f x) p)
      ∙ meant term t true (cond b (a && holds f x) (holds f x)) p ∙ ap (λ v. onto v p) (and_on b a (holds f x) (holds t x))
  meant factor (neg f) = λ n p. meant factor f (not n) p ∙ ap (λ v. onto v p) (not_on n (holds f x))
  meant factor (group r) = λ n p. acts-++ x (post false r) _ _ ∙ ap (acts x (step_if n Negate)) (meant rule r false false p) ∙ negated n (holds r x) p
  meant factor (test f s k) = λ n p. negated n _ p

-- the steps of a rule answer what it says
pub answers : (r : Tree rule) (x : Description) → top (acts x (post false r) 0) ≡ holds r x
answers r x = ap top (meant x rule r false false 0) ∙ top_onto (holds r x) 0
