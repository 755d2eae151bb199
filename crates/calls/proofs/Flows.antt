-- The flow of a lawful table that pledges as much as any is a maximum flow, and a minimum cut has its value for its capacity.
--
-- A flow's value is what its own table pledges, and that table is lawful; so no flow's value passes what the table pledges. A
-- covering table is one of these, since no lawful table pledges more than is owed, and so is one that leaves the least uncovered.
-- No walk comes to the sink of a maximum flow, so the nodes that are reached are a minimum cut whose capacity is the flow's value:
-- together with the least shortage it comes to all that is owed.

use Rattle.std.proofs.Common.{◌≡◌, ℕ, ◌+◌, ◌-◌, ◌≤◌, Bool, ltb, inl, inr, arith}
use Rattle.std.proofs.lemmas.Bool.{cases_eq}
use Rattle.network.specs.Flow.{Net, Sound, value, capacity, Maximum, Minimum}
use Rattle.network.specs.Residual.{Distances}
use Rattle.network.proofs.Cut.{max_min}
use Rattle.network.proofs.Layers.{distance, distances}
use Rattle.network.proofs.Maximum.{maximum_no_walk}
use Rattle.table.specs.Table.{Situation, Table, Lawful, Covers, pledged, owed, Shortage}
use Rattle.table.specs.Drawn.{place, net_of, flow_of, table_of}
use Rattle.table.proofs.Balance.{source_gets, by_numbers}
use Rattle.table.proofs.Tables.{net_sound, lawful_flow, pledged_value, pledged_owed, flow_lawful, flow_value, covers_all_lem}

-- the sink of a maximum flow is not reached
unreached : (N : Net) (f mark : ℕ → ℕ) → Sound N → Maximum N f → Distances N f mark → mark N.sink ≡ 0
unreached N f mark s most d =
    elim (cases_eq (mark N.sink) 0) [
      | inl z ↦ z
      | inr y ↦ absurd (maximum_no_walk N f s most.0 most (mark N.sink - 1) (d.reached N.sink s.sink_in (omega arith)))
    ]

maximum_cut : (N : Net) (f : ℕ → ℕ) → Sound N → Maximum N f → (S : ℕ → Bool) × Minimum N S × (value N f ≡ capacity N S)
maximum_cut N f s most =
    let d = distances N f s in
    let cut = max_min N f (distance N f) s most.0 d (unreached N f (distance N f) s most d) in
    (λ v. ltb 0 (distance N f v), cut.1, cut.2)

module _ (s : Situation) (p : Table) (w : Lawful s p) where
  most_maximum : ((q : Table) → Lawful s q → pledged q ≤ pledged p) → Maximum (net_of s) (flow_of s p)
  most_maximum most = (
    lawful_flow s p w,
    λ g c. omega (
      arith,
      most (table_of g) (flow_lawful s g c),
      flow_value s g c,
      pledged_value s p,
      source_gets s (λ a. g (place a)) g (by_numbers g),
      source_gets s (λ a. flow_of s p (place a)) (flow_of s p) (by_numbers (flow_of s p)),
    ),
  )

  pub covering_maximum : Covers s p → Maximum (net_of s) (flow_of s p)
  covering_maximum c = most_maximum (λ q v. omega (arith, (covers_all_lem s p w).0 c, pledged_owed s q v))

joined : (c v p o x : ℕ) → v ≡ c → v ≡ p → p ≤ o → o - p ≡ x → c + x ≡ o
joined c v p o x a b low e = omega arith

pub shortage_cut : (s : Situation) (x : ℕ) → Shortage s x → (S : ℕ → Bool) × Minimum (net_of s) S × (capacity (net_of s) S + x ≡ owed s)
shortage_cut s x h =
    let p = h.table in
    let w = h.lawful in
    let low = pledged_owed s p w in
    let most = most_maximum s p w (λ q v. omega (arith, h.least q v, h.meets, pledged_owed s q v)) in
    let cut = maximum_cut (net_of s) (flow_of s p) (net_sound s) most in
    (cut.0, cut.1, joined (capacity (net_of s) cut.0) (value (net_of s) (flow_of s p)) (pledged p) (owed s) x cut.2 (pledged_value s p) low h.meets)
