-- Where the faults of a text are, from how far the machine has come.
--
-- A text has passed up to the place i if the machine is alive after each of its first i bytes, no number has become
-- too large by then, and no bracket or step among them is one too many. Then every fault stands at i or later, but
-- for one kind: a number that becomes too large only after i has its fault at its first digit. Such a number is still
-- being read at i, so where the byte at i ends it, or is refused, there is none, and what is wrong at i is the least
-- fault. And where the byte at i makes a number too large, the least fault is that number's: nothing before it is
-- wrong, and its first digit was expected.

use Rattle.std.proofs.Common.{◌≡◌, ℕ, zero, suc, ◌+◌, ◌-◌, ◌*◌, ◌<◌, ◌≤◌, Bool, true, false, T, eqb, ◌⊎◌, List, [], ◌∷◌, ◌++◌, length, get_or, take, drop, sym, refl, ap, ◌∙◌, subst, inl, inr, append_assoc, append-nil, one-add, arith, length-append, take-append-drop, length-take-le, take_all}
use lib.Seq.{take-append-add, take-append-le}
use Rattle.std.proofs.lemmas.Bool.{both_ways, cases_lt, cases_eq}
use Rattle.grammar.specs.declared.Field.{Field}
use Rattle.grammar.specs.declared.Sign.{Sign}
use Rattle.grammar.specs.Grammar.{leading, Digits, letter, sign, digits, number, value, longest, largest, deepest, most_steps, count, step, IsRule, Begins, Fault, Faultless, Least}
use Rattle.grammar.specs.Grammar.Digits.{none, more}
use Rattle.grammar.specs.Grammar.Number.{nought, figures}
use Rattle.grammar.specs.Grammar.Fault.{long, unexpected, ended, over, deep, steps}
use Rattle.rule.specs.declared.text.Lead.TheVariants.{Letter}
use Rattle.rule.specs.declared.text.Mark.TheVariants.{Lead as Leads, Compare}
use Rattle.rule.specs.declared.steps.Step.{Step}
use Rattle.rule.specs.declared.text.Level.{Level}
use Rattle.rule.specs.declared.text.Mode.TheVariants.{Want, Named, Signed, Counting}
use Rattle.rule.specs.Machine.{State, next, scan, start}
use Rattle.rule.specs.Machine.State.{dead, at}
use Rattle.rule.proofs.Bytes.{mark_digit}
use Rattle.rule.proofs.Moves.{scan-++}
use Rattle.rule.proofs.Trees.{T_true, scan_digits, scan_first, scan_signed, begins_alive}
use Rattle.rule.proofs.Viable.{alive_begins}

-- a number is being read; it is too large
abbrev pub counting : State → Bool
counting (at (Counting f s v) l ls c) = true
counting _ = false

abbrev pub Big : State → Type 0
Big (at (Counting f s v) l ls c) = largest < v
Big _ = ⊥

abbrev pub Alive : List ℕ → ℕ → Type 0
Alive t j = scan start (take j t) ≡ dead → ⊥

abbrev pub Small : List ℕ → ℕ → Type 0
Small t j = Big (scan start (take j t)) → ⊥

abbrev pub Shallow : List ℕ → ℕ → Type 0
Shallow t j = get_or t j 0 ≡ 40 → count (eqb 40) (take j t) ≡ count (eqb 41) (take j t) + deepest → ⊥

abbrev pub Few : List ℕ → ℕ → Type 0
Few t j = step (get_or t j 0) ≡ true → count step (take j t) ≡ most_steps → ⊥

pub record Passed (t : List ℕ) (i : ℕ) : Type 0 where
  pub short : length t ≤ longest
  pub within : i ≤ length t
  pub alive : (j : ℕ) → j ≤ i → Alive t j
  pub small : (j : ℕ) → j ≤ i → Small t j
  pub shallow : (j : ℕ) → j < i → Shallow t j
  pub few : (j : ℕ) → j < i → Few t j

pub passed_none : (t : List ℕ) → length t ≤ longest → Passed t 0
passed_none t h = record {
  short = h;
  within = omega arith;
  alive = λ j g e. let z : j ≡ 0 = omega arith in never (subst (λ k. scan start (take k t) ≡ dead) z e);
  small = λ j g b. let z : j ≡ 0 = omega arith in subst (λ k. Big (scan start (take k t))) z b;
  shallow = λ j g. absurd (omega arith);
  few = λ j g. absurd (omega arith);
}
  where
    never : start ≡ dead → ⊥
    never e = let z : ◌≡◌ {A = ℕ} 0 1 = cc in omega arith

-- what holds up to i, and at i + 1, holds up to i + 1; and below alike
up_to : (P : ℕ → Type 0) (i : ℕ) → ((j : ℕ) → j ≤ i → P j) → P (i + 1) → (j : ℕ) → j ≤ i + 1 → P j
up_to P i h p j g = elim (cases_eq j (i + 1)) [ inl e ↦ subst P (sym e) p | inr e ↦ h j (omega arith) ]

below : (P : ℕ → Type 0) (i : ℕ) → ((j : ℕ) → j < i → P j) → P i → (j : ℕ) → j < i + 1 → P j
below P i h p j g = elim (cases_eq j i) [ inl e ↦ subst P (sym e) p | inr e ↦ h j (omega arith) ]

pub passed_more : (t : List ℕ) (i : ℕ) → Passed t i → i < length t → Alive t (i + 1) → Small t (i + 1) → Shallow t i → Few t i → Passed t (i + 1)
passed_more t i p h a b d s = record {
  short = p.short;
  within = omega arith;
  alive = up_to (Alive t) i p.alive a;
  small = up_to (Small t) i p.small b;
  shallow = below (Shallow t) i p.shallow d;
  few = below (Few t) i p.few s;
}

passed_less : (t : List ℕ) (i j : ℕ) → j ≤ i → Passed t i → Passed t j
passed_less t i j h p = record {
  short = p.short;
  within = omega (arith, p.within);
  alive = λ k g. p.alive k (omega arith);
  small = λ k g. p.small k (omega arith);
  shallow = λ k g. p.shallow k (omega arith);
  few = λ k g. p.few k (omega arith);
}

-- a number is being read after each of its digits
after_letter : (st : State) (f : Field) (s : Sign) → (next (next st (Leads (Letter f))) (Compare s) ≡ dead → ⊥) →
    (l : Level) × (ls : List Level) × (c : List Step) × (next (next st (Leads (Letter f))) (Compare s) ≡ at (Signed f s) l ls c)
after_letter (at Want l ls c) f s a = (l, ls, c, refl)
after_letter _ f s a = absurd (a refl)

digits_run : (f : Field) (s : Sign) (v : ℕ) (l : Level) (ls : List Level) (c : List Step) (d : Digits) (m : ℕ) →
    counting (scan (at (Counting f s v) l ls c) (take m (digits d))) ≡ true
digits_run f s v l ls c none zero = refl
digits_run f s v l ls c none (suc m) = refl
digits_run f s v l ls c (more b h d) zero = refl
digits_run f s v l ls c (more b h d) (suc m) =
    ap (λ k. counting (scan (next (at (Counting f s v) l ls c) k) (take m (digits d)))) (mark_digit b (T_true _ h))
    ∙ digits_run f s (10 * v + (b - 48)) l ls c d m

-- a number in the text t, after q and its letter and sign
module _ (t q : List ℕ) (f : Field) (s : Sign) (b : ℕ) (g : T (leading b)) (d : Digits) (u : List ℕ) (e : t ≡ q ++ letter f ∷ (sign s ∷ (b ∷ (digits d ++ u)))) where
  abbrev before : List ℕ
  before = q ++ letter f ∷ (sign s ∷ [])

  before_length : length before ≡ length q + 2
  before_length = length-append q (letter f ∷ (sign s ∷ []))

  split : t ≡ before ++ ((b ∷ digits d) ++ u)
  split = e ∙ sym (append_assoc q (letter f ∷ (sign s ∷ [])) ((b ∷ digits d) ++ u))

  pub front : (m : ℕ) → m ≤ length (b ∷ digits d) → take (length q + 2 + m) t ≡ before ++ take m (b ∷ digits d)
  front m h = ap (take (length q + 2 + m)) split ∙ ap (λ n. take (n + m) (before ++ ((b ∷ digits d) ++ u))) (sym before_length)
      ∙ take-append-add before ((b ∷ digits d) ++ u) m ∙ ap (λ v. before ++ v) (take-append-le m (b ∷ digits d) u h)

  pub fits : length q + 2 + length (b ∷ digits d) ≤ length t
  fits = omega (arith, ap length split, length-append before ((b ∷ digits d) ++ u), length-append (b ∷ digits d) u, before_length)

  pub scan_before : scan start before ≡ next (next (scan start q) (Leads (Letter f))) (Compare s)
  scan_before = scan-++ start q (letter f ∷ (sign s ∷ [])) ∙ scan_signed f s (scan start q)

  module _ (a : Alive t (length q + 2)) where
    signed : (l : Level) × (ls : List Level) × (c : List Step) × (scan start before ≡ at (Signed f s) l ls c)
    signed =
        let p : take (length q + 2) t ≡ before = ap (λ n. take n t) (omega arith) ∙ front 0 (omega arith) ∙ append-nil before in
        let i = after_letter (scan start q) f s (λ z. a (ap (scan start) p ∙ scan_before ∙ z)) in
        (i.0, i.1, i.2, scan_before ∙ i.3)

    scan_part : (m : ℕ) → m ≤ length (digits d) →
        scan start (take (length q + 2 + (1 + m)) t) ≡ scan (at (Counting f s (b - 48)) signed.0 signed.1 signed.2) (take m (digits d))
    scan_part m h =
        ap (scan start) (front (1 + m) (omega arith) ∙ ap (λ n. before ++ take n (b ∷ digits d)) (one-add m))
        ∙ scan-++ start before (b ∷ take m (digits d))
        ∙ ap (λ st. scan st (b ∷ take m (digits d))) signed.3
        ∙ ap (λ st. scan st (take m (digits d))) (scan_first f s signed.0 signed.1 signed.2 b g)

    pub runs : (m : ℕ) → m ≤ length (digits d) → counting (scan start (take (length q + 2 + (1 + m)) t)) ≡ true
    runs m h = ap counting (scan_part m h) ∙ digits_run f s (b - 48) signed.0 signed.1 signed.2 d m

    pub big : largest < value (b - 48) d → Big (scan start (take (length q + 2 + (1 + length (digits d))) t))
    big h = subst Big (sym (scan_part (length (digits d)) (omega arith)
        ∙ ap (scan (at (Counting f s (b - 48)) signed.0 signed.1 signed.2)) (take_all (length (digits d)) (digits d) (omega arith))
        ∙ scan_digits f s signed.0 signed.1 signed.2 (b - 48) d)) h

-- a number too large that begins at i or before is being read after the byte at i
pub over_runs : (t : List ℕ) (i : ℕ) → Passed t i → {c k : ℕ} → Fault t c k → c ≡ 7 → k ≤ i → (i < length t) × (counting (scan start (take (i + 1) t)) ≡ true)
over_runs t i p (over q f s (figures b l d) u w h) e g =
    let a = p.alive (length q + 2) g in
    elim (cases_lt i (length q + 2 + (1 + length (digits d)))) [
      | inl x ↦ (
        omega (arith, fits t q f s b l d u w),
        let y : length q + 2 + (1 + (i - (length q + 2))) ≡ i + 1 = omega arith in
            subst (λ z. counting (scan start (take z t)) ≡ true) y (runs t q f s b l d u w a (i - (length q + 2)) (omega arith)),
      )
      | inr x ↦ absurd (p.small _ x (big t q f s b l d u w a h))
    ]
over_runs t i p (over q f s nought u w h) e g = absurd (omega arith)
over_runs t i p _ e g = absurd (omega arith)

-- every other fault stands at i or later
late : (t : List ℕ) (i : ℕ) → Passed t i → {c k : ℕ} → Fault t c k → (6 ≤ c) × ((i ≤ k) ⊎ ((c ≡ 7) × (k < i)))
late t i p (long h) = absurd (omega (arith, p.short))
late t i p (unexpected k h b a) = (omega arith, elim (cases_lt k i) [ inl x ↦ absurd (a (alive_begins _ (p.alive (k + 1) (omega arith)))) | inr x ↦ inl x ])
late t i p (ended b a) = (omega arith, inl p.within)
late t i p (over q f s n u e h) = (omega arith, elim (cases_lt (length q + 2) i) [ inl x ↦ inr (refl, x) | inr x ↦ inl x ])
late t i p (deep k h b a) = (omega arith, elim (cases_lt k i) [ inl x ↦ absurd (p.shallow k x b a) | inr x ↦ inl x ])
late t i p (steps k h b a) = (omega arith, elim (cases_lt k i) [ inl x ↦ absurd (p.few k x b a) | inr x ↦ inl x ])

-- no number is being read after the byte at i
abbrev Quiet : List ℕ → ℕ → Type 0
Quiet t i = i < length t → counting (scan start (take (i + 1) t)) ≡ false

no_seven : (t : List ℕ) (i : ℕ) → Passed t i → Quiet t i → {c k : ℕ} → Fault t c k → k ≤ i → c ≡ 7 → ⊥
no_seven t i p q f g e = let w = over_runs t i p f e g in both_ways _ (q w.0) w.1

-- a fault at i is the least if it is the smallest there
least_at : (t : List ℕ) (i c : ℕ) → Passed t i → Quiet t i → Fault t c i → ((d : ℕ) → Fault t d i → 6 ≤ d → (d ≡ 7 → ⊥) → c ≤ d) → Least t c i
least_at t i c p q w h = record {
  is = w;
  least = λ d j f.
      let l = late t i p f in
      elim l.1 [
        | inl x ↦ elim (cases_eq i j) [
          | inl e ↦ inr (e, h d (subst (Fault t d) (sym e) f) l.0 (no_seven t i p q f (omega arith)))
          | inr e ↦ inl (omega arith)
        ]
        | inr x ↦ absurd (no_seven t i p q f (omega (arith, x.1)) x.0)
      ];
}

not_six : (t : List ℕ) (i : ℕ) → i < length t → Alive t (i + 1) → {c k : ℕ} → Fault t c k → i ≡ k → c ≡ 6 → ⊥
not_six t i g a (unexpected k h b x) e w = x (alive_begins _ (subst (λ z. Alive t (z + 1)) e a))
not_six t i g a _ e w = omega arith

not_eight : (t : List ℕ) (i : ℕ) → Shallow t i → {c k : ℕ} → Fault t c k → i ≡ k → c ≡ 8 → ⊥
not_eight t i a (deep k h b x) e w = subst (Shallow t) e a b x
not_eight t i a _ e w = omega arith

-- the six ways in which a text is refused, and the one in which it is not
pub least_long : (t : List ℕ) → longest < length t → Least t 5 0
least_long t h = record { is = long h; least = λ d j f. elim (cases_lt 0 j) [ inl x ↦ inl x | inr x ↦ inr (omega arith, five f) ] }
  where
    five : {c k : ℕ} → Fault t c k → 5 ≤ c
    five (long h) = omega arith
    five _ = omega arith

pub least_byte : (t : List ℕ) (i : ℕ) → Passed t i → i < length t → scan start (take (i + 1) t) ≡ dead → Least t 6 i
least_byte t i p h e = least_at t i 6 p (λ _. ap counting e)
    (unexpected i h (alive_begins _ (p.alive i (omega arith))) (λ b. begins_alive _ b e)) (λ d f g n. g)

pub least_bracket : (t : List ℕ) (i : ℕ) → Passed t i → i < length t → Alive t (i + 1) → counting (scan start (take (i + 1) t)) ≡ false →
    get_or t i 0 ≡ 40 → count (eqb 40) (take i t) ≡ count (eqb 41) (take i t) + deepest → Least t 8 i
least_bracket t i p h a n b w = least_at t i 8 p (λ _. n) (deep i h b w) (λ d f g s. let x = not_six t i h a f refl in omega arith)

pub least_step : (t : List ℕ) (i : ℕ) → Passed t i → i < length t → Alive t (i + 1) → counting (scan start (take (i + 1) t)) ≡ false →
    Shallow t i → step (get_or t i 0) ≡ true → count step (take i t) ≡ most_steps → Least t 9 i
least_step t i p h a n v b w = least_at t i 9 p (λ _. n) (steps i h b w)
    (λ d f g s. let x = not_six t i h a f refl in let y = not_eight t i v f refl in omega arith)

pub least_end : (t : List ℕ) → Passed t (length t) → (IsRule t → ⊥) → Least t 6 (length t)
least_end t p a = least_at t (length t) 6 p (λ h. absurd (omega arith))
    (ended (subst Begins (take_all (length t) t (omega arith)) (alive_begins _ (p.alive (length t) (omega arith)))) a) (λ d f g n. g)

counting_sign : (st : State) (s : Sign) → counting (next st (Compare s)) ≡ false
counting_sign dead s = refl
counting_sign (at (Named f) l ls c) s = refl
counting_sign _ s = refl

-- the number whose last digit is the byte at i is too large
pub least_number : (t : List ℕ) (i : ℕ) (q : List ℕ) (f : Field) (s : Sign) (b : ℕ) (g : T (leading b)) (d : Digits) → Passed t i → i < length t → Alive t (i + 1) →
    take (i + 1) t ≡ q ++ letter f ∷ (sign s ∷ (b ∷ digits d)) → largest < value (b - 48) d → Least t 7 (length q + 2)
least_number t i q f s b g d p h a e w =
    let k = length q + 2 in
    let u = drop (i + 1) t in
    let z : t ≡ q ++ letter f ∷ (sign s ∷ (b ∷ (digits d ++ u))) = sym (take-append-drop (i + 1) t) ∙ ap (λ x. x ++ u) e ∙ append_assoc q (letter f ∷ (sign s ∷ (b ∷ digits d))) u in
    let n : length (take (i + 1) t) ≡ i + 1 = length-take-le (i + 1) t (omega arith) in
    let y : k ≤ i = omega (arith, n, ap length e, length-append q (letter f ∷ (sign s ∷ (b ∷ digits d)))) in
    let r : take k t ≡ before t q f s b g d u z = ap (λ m. take m t) (omega arith) ∙ front t q f s b g d u z 0 (omega arith) ∙ append-nil (before t q f s b g d u z) in
    let c : counting (scan start (take k t)) ≡ false = ap counting (ap (scan start) r ∙ scan_before t q f s b g d u z) ∙ counting_sign (next (scan start q) (Leads (Letter f))) s in
    let o : Alive t (k + 1) = elim (cases_eq k i) [ inl x ↦ subst (λ m. Alive t (m + 1)) (sym x) a | inr x ↦ p.alive (k + 1) (omega arith) ] in
    record {
      is = over q f s (figures b g d) u z w;
      least = λ j m x.
          let l = late t k (passed_less t i k y p) x in
          elim l.1 [
            | inl v ↦ elim (cases_eq k m) [ inl same ↦ inr (same, let n = not_six t k (omega arith) o x same in omega (arith, l.0)) | inr other ↦ inl (omega arith) ]
            | inr v ↦
                let j = over_runs t (k - 1) (passed_less t i (k - 1) (omega arith) p) x v.0 (omega (arith, v.1)) in
                let i : k - 1 + 1 ≡ k = omega arith in
                absurd (both_ways _ c (subst (λ m. counting (scan start (take m t)) ≡ true) i j.1))
          ];
    }

pub no_fault : (t : List ℕ) → Passed t (length t) → IsRule t → Faultless t
no_fault t p r c k f = none f
  where
    none : {c k : ℕ} → Fault t c k → ⊥
    none (long h) = omega (arith, p.short)
    none (unexpected k h b a) = a (alive_begins _ (p.alive (k + 1) (omega arith)))
    none (ended b a) = a r
    none (over q f s m u e h) =
        let w = over_runs t (length t) p (over q f s m u e h) refl (omega (arith, ap length e, length-append q (letter f ∷ (sign s ∷ (number m ++ u))))) in
        omega (arith, w.0)
    none (deep k h b a) = p.shallow k h b a
    none (steps k h b a) = p.few k h b a
