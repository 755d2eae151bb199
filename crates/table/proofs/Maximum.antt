-- What a maximum flow says of the tables.
--
-- Lawful tables and flows are the same, and what a table pledges is its flow's value. So no lawful table pledges more than a
-- maximum flow's own table, which leaves the least uncovered. A lawful table covers where it pledges all that is owed, and none
-- pledges more than that; so if one covers, then the maximum flow's table does.

use Rattle.std.proofs.Common.{◌≡◌, ℕ, ◌-◌, ◌≤◌, ◌↔◌, ap, ◌∙◌, arith}
use Rattle.network.specs.Flow.{value, Maximum}
use Rattle.table.specs.Table.{Situation, Table, Lawful, Covers, pledged, owed, Shortage}
use Rattle.table.specs.Drawn.{place, net_of, flow_of, table_of}
use Rattle.table.proofs.Balance.{source_gets, by_numbers}
use Rattle.table.proofs.Tables.{lawful_flow, pledged_value, flow_lawful, flow_value, value_owed, covers_all_lem}

module _ (s : Situation) (f : ℕ → ℕ) (m : Maximum (net_of s) f) where
  most : (p : Table) → Lawful s p → pledged p ≤ value (net_of s) f
  most p w =
      let g = flow_of s p in
      omega (arith, m.1 (flow_of s p) (lawful_flow s p w), source_gets s (λ a. f (place a)) f (by_numbers f), source_gets s (λ a. flow_of s p (place a)) (flow_of s p) (by_numbers (flow_of s p)), pledged_value s p)

  pub maximum_shortage : Shortage s (owed s - value (net_of s) f)
  maximum_shortage = record {
    table = table_of f;
    lawful = flow_lawful s f m.0;
    meets = ap (λ x. owed s - x) (flow_value s f m.0);
    least = λ p w. omega (arith, most p w);
  }

  pub maximum_covers : value (net_of s) f ≡ owed s → Lawful s (table_of f) × Covers s (table_of f)
  maximum_covers e = (flow_lawful s f m.0, (covers_all_lem s (table_of f) (flow_lawful s f m.0)).1 (flow_value s f m.0 ∙ e))

  pub covers_maximum : (p : Table) → Lawful s p → Covers s p → value (net_of s) f ≡ owed s
  covers_maximum p w c = omega (arith, most p w, (covers_all_lem s p w).0 c, value_owed s f m.0)

  pub covered_at_maximum_lem : ((p : Table) × Lawful s p × Covers s p) ↔ (value (net_of s) f ≡ owed s)
  covered_at_maximum_lem = (λ c. covers_maximum c.0 c.1 c.2, λ e. (table_of f, (maximum_covers e).0, (maximum_covers e).1))
