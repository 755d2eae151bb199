-- What the rounds come to, in the words of the tables. The rounds run from a flow f to a maximum flow g: g's table covers, or it
-- leaves the least shortage, and what is reached explains it.

use Rattle.std.proofs.Common.{◌≡◌, ℕ, ◌-◌, Bool, true, false, ltb, sym, refl, ◌∙◌, arith}
use Rattle.std.proofs.lemmas.Bool.{false≢true}
use Rattle.network.specs.Flow.{Flow, value, Maximum}
use Rattle.network.specs.Residual.{Distances}
use Rattle.network.specs.Round.{Rounds}
use Rattle.network.proofs.Same.{same_refl, same_flow, same_rounds}
use Rattle.network.proofs.Duality.{zero_flow}
use Rattle.table.specs.Table.{Situation, Table, SameTable, owed}
use Rattle.table.specs.Drawn.{net_of, flow_of, table_of}
use Rattle.table.specs.Record.{marks_of}
use Rattle.table.specs.Outcome.{Start, Begins, Granted, Short}
use Rattle.table.proofs.Tables.{lawful_flow, lawful_same, covers_same, flow_same, flow_again, table_again, value_owed}
use Rattle.table.proofs.Maximum.{maximum_shortage, maximum_covers, covers_maximum}
use Rattle.table.proofs.Record.{reached_explains_lem}

module _ (s : Situation) where
  pub begin_flow : (p : Table) (f : ℕ → ℕ) (b : Bool) → Begins s p f b → Flow (net_of s) f
  begin_flow p f true d = same_flow (net_of s) (net_of s) (same_refl (net_of s)) (flow_of s p) f (λ k h. sym (d.loaded refl k h)) (lawful_flow s p (d.test.0 refl))
  begin_flow p f false d = zero_flow (net_of s) f (d.blank refl)

  begin_table : (p : Table) (f : ℕ → ℕ) (b : Bool) → Begins s p f b → Start s p (table_of f)
  begin_table p f true d = record {
    same = λ w l e h j. d.loaded refl _ (omega arith) ∙ table_again s p l e h j;
    blank = λ w. absurd (w (d.test.0 refl));
  }
  begin_table p f false d = record {
    same = λ w. absurd (false≢true (d.test.1 w));
    blank = λ w l e h j. d.blank refl _ (omega arith);
  }

  pub granted : (p q : Table) (f g : ℕ → ℕ) (k : ℕ) (b : Bool) → Begins s p f b → Rounds (net_of s) k f g → Maximum (net_of s) g → value (net_of s) g ≡ owed s → SameTable (table_of g) q → Granted s k p q
  granted p q f g k b d r m v c =
      let t = maximum_covers s g m v in
      let x = begin_flow p f b d in
      record {
        lawful = lawful_same s (table_of g) q c t.0;
        covers = covers_same s (table_of g) q c t.1;
        first = table_of f;
        starts = begin_table p f b d;
        chain = same_rounds (net_of s) (net_of s) (same_refl (net_of s)) k f (flow_of s (table_of f)) g (flow_of s q)
            (λ k h. sym (flow_again s f x k h))
            (λ k h. sym (flow_again s g m.0 k h) ∙ flow_same s (table_of g) q c k h) r;
      }

  pub short : (g mark : ℕ → ℕ) → Maximum (net_of s) g → Distances (net_of s) g mark → mark 1105 ≡ 0 → (value (net_of s) g ≡ owed s → ⊥) → Short s (owed s - value (net_of s) g) (marks_of s (λ v. ltb 0 (mark v)))
  short g mark m d n ne =
      let low = value_owed s g m.0 in
      record {
        none = λ p w c. ne (covers_maximum s g m p w c);
        shortage = maximum_shortage s g m;
        explains = reached_explains_lem s g mark m.0 d n (omega arith);
      }
