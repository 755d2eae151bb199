-- Only what is drawn has room, so only drawn nodes are reached, and there are fewer rounds than these.

use Rattle.std.proofs.Common.{◌≡◌, ℕ, ◌*◌, ◌/◌, ◌<◌, true, sym, ap, ◌∙◌, subst, inl, inr, arith}
use Rattle.std.proofs.lemmas.Bool.{and_parts, and_from}
use Rattle.network.specs.Flow.{Flow}
use Rattle.network.specs.Residual.{from, to, room, Walk}
use Rattle.network.specs.Residual.Walk.{stay, step}
use Rattle.network.proofs.Residual.{parity, from_even, from_odd, to_even, to_odd, room_even, room_odd}
use Rattle.network.proofs.Rounds.{rounds_within}
use Rattle.table.specs.Table.{Situation, Table, Lawful}
use Rattle.table.specs.Drawn.{arc, net_of, number, node, tail_of, head_of, cap_of, drawn_node, drawn_arc, drawn_nodes, slot, leads, flow_of}
use Rattle.table.specs.Outcome.{Chain}
use Rattle.table.proofs.Sums.{when_some}
use Rattle.table.proofs.Slots.{slot_low, slot_leads}
use Rattle.table.proofs.Nodes.{node_source, node_lot, node_cell, node_exposure, node_sink}
use Rattle.table.proofs.Arcs.{each}
use Rattle.table.proofs.Tables.{net_sound, lawful_flow}

module _ (s : Situation) where
  here : ℕ → Type 0
  here v = drawn_node s (node v) ≡ true

  -- an arc that is drawn joins two nodes that are drawn
  ends : (k : ℕ) → k < 2128 → drawn_arc s (arc k) ≡ true → here (number (tail_of (arc k))) × here (number (head_of s (arc k)))
  unfolding here
  ends = each (λ a. drawn_arc s a ≡ true → here (number (tail_of a)) × here (number (head_of s a)))
      (λ l h y. (ap (drawn_node s) node_source, ap (drawn_node s) (node_lot l h) ∙ y))
      (λ l e h j y.
      let a = and_parts (s.held l) _ y in (
        ap (drawn_node s) (node_lot l h) ∙ a.0,
        ap (drawn_node s) (node_cell (slot s l) e (slot_low s l h) j) ∙ and_from (leads s (slot s l)) _ (slot_leads s l h a.0) (and_parts (s.opened e) _ a.1).0,
      ))
      (λ t e h j y. (ap (drawn_node s) (node_cell t e h j) ∙ y, ap (drawn_node s) (node_exposure e j) ∙ (and_parts (leads s t) _ y).1))
      (λ e h y. (ap (drawn_node s) (node_exposure e h) ∙ y, ap (drawn_node s) node_sink))

  carries : (k : ℕ) → k < 2128 → 0 < cap_of s (arc k) → here (number (tail_of (arc k))) × here (number (head_of s (arc k)))
  carries k h c = ends k h (when_some (drawn_arc s (arc k)) _ c)

  -- along an arc that is not full, or back along one that is used
  pub room_drawn : (f : ℕ → ℕ) (a : ℕ) → Flow (net_of s) f → a < 2 * 2128 → 0 < room (net_of s) f a → (drawn_node s (node (from (net_of s) a)) ≡ true) × (drawn_node s (node (to (net_of s) a)) ≡ true)
  unfolding here
  room_drawn f a q h r =
      let i : a / 2 < 2128 = omega arith in
      elim (parity a) [
        | inl e ↦
            let z = carries (a / 2) i (omega (arith, ap (room (net_of s) f) e ∙ room_even (net_of s) f (a / 2))) in
            (subst here (sym (ap (from (net_of s)) e ∙ from_even (net_of s) (a / 2))) z.0, subst here (sym (ap (to (net_of s)) e ∙ to_even (net_of s) (a / 2))) z.1)
        | inr e ↦
            let z = carries (a / 2) i (omega (arith, ap (room (net_of s) f) e ∙ room_odd (net_of s) f (a / 2), q.within (a / 2) i)) in
            (subst here (sym (ap (from (net_of s)) e ∙ from_odd (net_of s) (a / 2))) z.1, subst here (sym (ap (to (net_of s)) e ∙ to_odd (net_of s) (a / 2))) z.0)
      ]

  pub walk_drawn : (f : ℕ → ℕ) (v d : ℕ) → Flow (net_of s) f → Walk (net_of s) f v d → drawn_node s (node v) ≡ true
  walk_drawn f _ _ q stay = ap (drawn_node s) node_source
  walk_drawn f _ _ q (step a w h r) = (room_drawn f a q h r).1

-- a round takes the sink farther, and at each round it is no farther than there are drawn nodes
pub rounds_drawn : (s : Situation) (k : ℕ) (p q : Table) → Lawful s p → Chain s k p q → k < drawn_nodes s
rounds_drawn s k p q w c = rounds_within (net_of s) (net_sound s) (λ v. drawn_node s (node v)) (walk_drawn s) k (flow_of s p) (flow_of s q) c (lawful_flow s p w)
