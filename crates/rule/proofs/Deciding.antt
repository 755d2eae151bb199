-- Every text is accepted with a meaning or has a least fault: the reader's verdicts, taken byte by byte to the end.

use Rattle.std.proofs.Common.{◌≡◌, ℕ, zero, suc, ◌+◌, ◌<◌, Bool, true, false, ◌&&◌, eqb, ◌⊎◌, List, [], ◌∷◌, ◌++◌, length, get_or, Ok, Err, Result, sym, refl, inl, inr, arith}
use Rattle.std.proofs.lemmas.Bool.{both_ways, cases_Bool, cases_lt, and_parts, eqb-true}
use Rattle.cause.specs.Numbers.{number as listed}
use Rattle.grammar.specs.declared.Description.{Description}
use Rattle.grammar.specs.Grammar.{Least}
use Rattle.rule.specs.declared.fault.TextFault.{TextFault}
use Rattle.rule.specs.declared.text.Mark.{Mark}
use Rattle.rule.specs.declared.steps.Step.{Step}
use Rattle.rule.specs.declared.steps.Step.TheVariants.{Test}
use Rattle.rule.specs.declared.text.Level.{Level}
use Rattle.rule.specs.declared.text.Mode.{Mode}
use Rattle.rule.specs.declared.text.Mode.TheVariants.{Want, Counting, Done}
use Rattle.rule.specs.Marks.{mark_of, steps}
use Rattle.rule.specs.Machine.{rested, finished, bit}
use Rattle.rule.specs.Machine.State.{at}
use Rattle.rule.specs.Reads.{ends, Concluded}
use Rattle.rule.specs.Refusing.{verdict, first_digit, Allowed}
use Rattle.rule.specs.Says.{Accepted, Decided}
use Rattle.rule.proofs.Passing.{least_long}
use Rattle.rule.proofs.Reading.{Reading, Judged, reading_none, reading_more, next_alive, judged, bad_end, granted}

abbrev Outcome : List ℕ → Type 0
Outcome t = ((f : Description → Bool) × Accepted t f) ⊎ ((c : ℕ) × (k : ℕ) × Least t c k)

concludes : (w : Mode) (l : Level) (ls : List Level) (c : List Step) → ends w ≡ true → (d : List Step) × Concluded (at w l ls c) ls d
concludes (Counting f s v) l ls c a = (_, record { waiting = rested l; said = finished l (c ++ Test f s v ∷ []); is = refl; steps = refl })
concludes Done l ls c a = (_, record { waiting = l; said = c; is = refl; steps = refl })
concludes _ l ls c a = absurd (both_ways false refl a)

at_end : (t : List ℕ) (w : Mode) (l : Level) (ls : List Level) (c : List Step) (n k i : ℕ) → Reading t w l ls c n k i → i ≡ length t → Outcome t
at_end t w l ls c n k i r e = elim (cases_Bool (ends w && eqb (length ls) 0)) [
  | inl a ↦
      let p = and_parts (ends w) (eqb (length ls) 0) a in
      let q = concludes w l ls c p.0 in
      inl (_, granted t w l ls c n k i r e q.0 (eqb-true (length ls) 0 p.1) q.1)
  | inr a ↦ inr (6, length t, bad_end t w l ls c n k i r e a)
]

by_verdict : (t : List ℕ) (w : Mode) (m : Mark) (d n : ℕ) (v : Result (Unit {0}) TextFault) → Judged t w m d n v → (Allowed w m d n → Outcome t) → Outcome t
by_verdict t w m d n (Ok u) a on = on a
by_verdict t w m d n (Err f) l on = inr (listed f.cause, f.place, l)

-- m bytes are left
to_end : (t : List ℕ) (m : ℕ) (w : Mode) (l : Level) (ls : List Level) (c : List Step) (n k i : ℕ) → Reading t w l ls c n k i → i + m ≡ length t → Outcome t
to_end t zero w l ls c n k i r e = at_end t w l ls c n k i r (omega arith)
to_end t (suc m) w l ls c n k i r e =
    let h : i < length t = omega arith in
    let x = mark_of (get_or t i 0) in
    by_verdict t w x (length ls) n (verdict w x (length ls) n i k) (judged t w l ls c n k i r h x refl) (λ a.
    let s = next_alive t w l ls c n k i r h x refl a in
    to_end t m s.0 s.1 s.2 s.3 (n + bit (steps x)) (first_digit x i k) (i + 1)
    (reading_more t w l ls c n k i r h x refl a s.0 s.1 s.2 s.3 _ _ (sym s.4) refl refl) (omega arith))

pub decided : Decided
decided t = elim (cases_lt 1024 (length t)) [
  | inl h ↦ inr (5, 0, least_long t h)
  | inr h ↦ to_end t (length t) Want _ [] [] 0 0 0 (reading_none t Want _ [] [] 0 0 h refl refl refl) (omega arith)
]
