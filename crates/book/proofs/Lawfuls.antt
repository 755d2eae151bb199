-- What a lawful table keeps of a book's invariants.

use Rattle.std.proofs.Common.{◌≡◌, ℕ, ◌+◌, ◌*◌, ◌/◌, ◌%◌, ◌<◌, ◌≤◌, true, List, length, get_or, Option, sym, subst, ⊎_elim, arith}
use native.Mathlib.Decide.{dec_lt}
use Rattle.std.proofs.lemmas.List.{get_or_past}
use Rattle.std.proofs.lemmas.Bool.{cases_eq, and_parts}
use Rattle.binder.specs.Meaning.{Meaning}
use Rattle.network.specs.Sums.{sum_over}
use Rattle.network.proofs.Sums.{sum_term}
use Rattle.table.specs.Table.{Lawful, allowed}
use Rattle.curve.specs.declared.lot.Lot.{Lot}
use Rattle.calls.specs.declared.Exposure.{Exposure}
use Rattle.calls.specs.State.{table, held_at, open_at}
use Rattle.calls.specs.Situation.{situation_of}
use Rattle.book.specs.Kept.{Grounded, Low, Worths}

module _ (m : Meaning) (lots : List (Option Lot)) (xs : List (Option Exposure)) (t : List ℕ) (law : Lawful (situation_of m lots xs) (table t)) where
  on_place : (p : ℕ) → p < 1024 → 0 < get_or t p 0 → allowed (situation_of m lots xs) (p / 16) (p % 16) ≡ true
  on_place p l h =
      let place : (p / 16) * 16 + p % 16 ≡ p = omega arith in
      law.grounded (p / 16) (p % 16) (omega arith) (omega arith) (subst (λ k. 0 < get_or t k 0) (sym place) h)

  pub grounded : Grounded lots xs t
  grounded p h =
      let on = on_place p h.0 h.1 in
      ((and_parts (held_at lots (p / 16)) _ on).0, (and_parts (open_at xs (p % 16)) _ (and_parts (held_at lots (p / 16)) _ on).1).0)

  pub low : Worths lots → length t ≡ 1024 → Low t
  low worths size p = elim (dec_lt p 1024) [
    | no past ↦ omega (arith, get_or_past t p 0 (omega arith))
    | yes within ↦ ⊎_elim (λ zero. omega arith) (λ some.
        (let place : (p / 16) * 16 + p % 16 ≡ p = omega arith in
        let on = on_place p within (omega arith) in
        let row = law.lots (p / 16) (omega arith) (and_parts (held_at lots (p / 16)) _ on).0 in
        let term = subst (λ k. get_or t k 0 ≤ sum_over 16 (λ e. table t (p / 16) e)) place (sum_term 16 (p % 16) (λ e. table t (p / 16) e) (omega arith)) in
        omega (arith, row, term, worths (p / 16)))) (cases_eq (get_or t p 0) 0)
  ]
