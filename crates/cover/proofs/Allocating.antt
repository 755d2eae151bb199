-- What the rounds leave behind is the answer: the flow's table where all that is owed is given, else the least shortage with the record
-- of what is reached.

use Rattle.std.proofs.Common.{◌≡◌, ℕ, ◌-◌, ◌≤◌, Bool, cond, eqb, ltb, List, Ok, Err, sym, ap, ◌∙◌, subst, arith}
use Rattle.std.proofs.lemmas.Bool.{eq-eqb, ne_eqb, ltb-false, cond-true, cond-false}
use Rattle.network.specs.Sums.{sum_over}
use Rattle.network.specs.Flow.{value}
use Rattle.flow.specs.Solved.{Solved}
use Rattle.table.specs.Table.{Situation, SameTable, owed}
use Rattle.table.specs.Drawn.{net_of, table_of}
use Rattle.table.specs.Record.{SameMarks, marks_of}
use Rattle.table.specs.Outcome.{Begins, Short}
use Rattle.table.proofs.Tables.{value_supply, value_owed}
use Rattle.table.proofs.Record.{explains_same}
use Rattle.table.proofs.Outcome.{granted, short}
use Rattle.cover.specs.declared.record.Record.{Record}
use Rattle.cover.specs.View.{pledge}
use Rattle.cover.specs.Answer.{noted, Allocated}

-- what the rounds were given and left: from the flow first to flow, by k rounds, of value given where due is owed
pub record Run (s : Situation) (first flow mark : ℕ → ℕ) (k given due : ℕ) : Type 0 where
  pub solved : Solved (net_of s) first flow mark k
  pub sum : given ≡ sum_over 64 flow
  pub owing : due ≡ owed s

module _ {s : Situation} {first flow mark : ℕ → ℕ} {k given due : ℕ} (run : Run s first flow mark k given due) where
  pub given_low : given ≤ due
  given_low = omega (arith, run.sum, run.owing, value_supply s flow, value_owed s flow run.solved.maximum.0)

  given_is : given ≡ value (net_of s) flow
  given_is = run.sum ∙ sym (value_supply s flow)

  pub allocated : (before after : List ℕ) (old new : Record) (b : Bool) → Begins s (pledge before) first b → given ≡ due → SameTable (table_of flow) (pledge after) → new ≡ old
      → Allocated s before after old new (cond (eqb given due) (Ok k) (Err (due - given)))
  allocated before after old new b begins e t n = subst (Allocated s before after old new) (sym (cond-true (eqb given due) (Ok k) (Err (due - given)) (eq-eqb given due e)))
      (granted s (pledge before) (pledge after) first flow k b begins run.solved.rounds run.solved.maximum (sym given_is ∙ e ∙ run.owing) t, n)

  pub lacking : (before after : List ℕ) (old new : Record) → (given ≡ due → ⊥) → SameMarks (noted new) (marks_of s (λ v. ltb 0 (mark v))) → after ≡ before
      → Allocated s before after old new (cond (eqb given due) (Ok k) (Err (due - given)))
  lacking before after old new e m t =
      let z : mark 1105 ≡ 0 = omega (arith, ltb-false 0 (mark 1105) run.solved.minimum.0.lacks_sink) in
      let x : owed s - value (net_of s) flow ≡ due - given = ap (λ v. owed s - v) (sym given_is) ∙ ap (λ v. v - given) (sym run.owing) in
      let h = subst (λ x. Short s x (marks_of s (λ v. ltb 0 (mark v)))) x (short s flow mark run.solved.maximum run.solved.reached z (λ q. e (given_is ∙ q ∙ sym run.owing))) in
      subst (Allocated s before after old new) (sym (cond-false (eqb given due) (Ok k) (Err (due - given)) (ne_eqb given due e)))
      (record { none = h.none; shortage = h.shortage; explains = explains_same s _ (noted new) (due - given) m h.explains }, t)
