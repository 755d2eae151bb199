-- The lists of residual arcs: each stands in the list of the node that it leaves.

use Rattle.std.proofs.Common.{◌≡◌, ℕ, ◌+◌, ◌-◌, ◌/◌, ◌^◌, ◌<◌, Bool, true, false, cond, eqb, ltb, sym, refl, ap, ◌∙◌, subst, inl, inr, arith}
use Rattle.std.proofs.lemmas.Bool.{ltb-true, lt-ltb, eqb-false, ne_eqb, cond-true, cond-false}
use Rattle.network.specs.Residual.{ahead, back, from, to, Listed}
use Rattle.network.proofs.Residual.{parity, from_even, from_odd, to_even, to_odd}
use Rattle.table.specs.Table.{Situation}
use Rattle.table.specs.Drawn.{Node, Arc, place, number, node, arc, net_of, tail_of, head_of, slot}
use Rattle.table.specs.Drawn.Node.{source, lot, cell, exposure, sink}
use Rattle.table.specs.Drawn.Arc.{supply, offer, bound, demand}
use Rattle.table.specs.Listing.{Members, deg_of_node, inc_of_node, deg_of, inc_of, target_of}
use Rattle.table.proofs.Arcs.{Kind, a_supply, an_offer, a_bound, a_demand, kind, arc_supply, arc_offer, arc_bound, arc_demand}
use Rattle.table.proofs.Nodes.{every_node, node_source, node_lot, node_cell, node_exposure, node_sink}
use Rattle.table.proofs.Slots.{slot_low}

module _ (s : Situation) where
  -- where the residual arcs of an arc leave and lead
  forth : (k : ℕ) (a : Arc) → arc k ≡ a → (from (net_of s) (ahead k) ≡ number (tail_of a)) × (to (net_of s) (ahead k) ≡ number (head_of s a))
  forth k a q = (from_even (net_of s) k ∙ ap (λ a. number (tail_of a)) q, to_even (net_of s) k ∙ ap (λ a. number (head_of s a)) q)

  back_along : (k : ℕ) (a : Arc) → arc k ≡ a → (from (net_of s) (back k) ≡ number (head_of s a)) × (to (net_of s) (back k) ≡ number (tail_of a))
  back_along k a q = (from_odd (net_of s) k ∙ ap (λ a. number (head_of s a)) q, to_odd (net_of s) k ∙ ap (λ a. number (tail_of a)) q)

module _ (s : Situation) (count : ℕ → ℕ) (member : ℕ → ℕ → ℕ) (w : Members s count member) where
  -- a is a residual arc from the node of number v to n
  abbrev Leads : ℕ → Node → ℕ → Type 0
  Leads v n a = (a < 4256) × (from (net_of s) a ≡ v) × (to (net_of s) a ≡ number n)

  leads_by : (v : ℕ) (b : Bool) (a a' : ℕ) (n n' : Node) → (b ≡ true → Leads v n a) → (b ≡ false → Leads v n' a') → Leads v (cond b n n') (cond b a a')
  leads_by v true a a' n n' p q = p refl
  leads_by v false a a' n n' p q = q refl

  there : (v : ℕ) → v < 1106 → (i : ℕ) → i < deg_of_node count (node v) → Leads v (target_of s member (node v) i) (inc_of_node member (node v) i)
  there = every_node (λ v n. (i : ℕ) → i < deg_of_node count n → Leads v (target_of s member n i) (inc_of_node member n i))
      (λ i h. let f = forth s i (supply i) (arc_supply i h) in (omega arith, f.0, f.1))
      (λ l h i j. leads_by (number (lot l)) (ltb i 16) _ _ _ _
      (λ y. let z = ltb-true i 16 y in let f = forth s (place (offer l i)) (offer l i) (arc_offer l i h z) in (omega arith, f.0, f.1))
      (λ y. let f = back_along s (place (supply l)) (supply l) (arc_supply l h) in (omega arith, f.0, f.1)))
      (λ t e h j i m. leads_by (number (cell t e)) (eqb i 0) _ _ _ _
      (λ y. let f = forth s (place (bound t e)) (bound t e) (arc_bound t e h j) in (omega arith, f.0, f.1))
      (λ y.
      let n = eqb-false i 0 y in
      let z = w.theirs t (i - 1) h (omega arith) in
      let f = back_along s (place (offer (member t (i - 1)) e)) (offer (member t (i - 1)) e) (arc_offer (member t (i - 1)) e z.0 j) in
      (omega (arith, z.0), f.0 ∙ ap (λ u. number (cell u e)) z.1, f.1)))
      (λ e j i m. leads_by (number (exposure e)) (eqb i 0) _ _ _ _
      (λ y. let f = forth s (place (demand e)) (demand e) (arc_demand e) in (omega arith, f.0, f.1))
      (λ y.
      let n = eqb-false i 0 y in
      let f = back_along s (place (bound (i - 1) e)) (bound (i - 1) e) (arc_bound (i - 1) e (omega arith) j) in
      (omega arith, f.0, f.1)))
      (λ i h. let f = back_along s (place (demand i)) (demand i) (arc_demand i) in (omega arith, f.0, f.1))

  -- where the i-th arc of the node v leads
  pub target_is : (v : ℕ) → v < 1106 → (i : ℕ) → i < deg_of count v → to (net_of s) (inc_of member v i) ≡ number (target_of s member (node v) i)
  target_is v h i j = (there v h i j).2

  -- the residual arc a stands in the list of v
  abbrev Stands : ℕ → ℕ → Type 0
  Stands v a = (i : ℕ) × (i < deg_of count v) × (inc_of member v i ≡ a)

  stands : (v a i : ℕ) (n : Node) → node v ≡ n → i < deg_of_node count n → inc_of_node member n i ≡ a → Stands v a
  stands v a i n q h e = (i, subst (λ m. i < deg_of_node count m) (sym q) h, ap (λ m. inc_of_node member m i) q ∙ e)

  stands_ahead : (k : ℕ) → Kind k → Stands (from (net_of s) (ahead k)) (ahead k)
  stands_ahead _ (a_supply l h) = rw (forth s l (supply l) (arc_supply l h)).0 (stands 0 _ l source node_source h refl)
  stands_ahead _ (an_offer l e h j) = rw (forth s (place (offer l e)) (offer l e) (arc_offer l e h j)).0 (stands (number (lot l)) _ e (lot l) (node_lot l h) (omega arith) (cond-true _ _ _ (lt-ltb e 16 j)))
  stands_ahead _ (a_bound t e h j) = rw (forth s (place (bound t e)) (bound t e) (arc_bound t e h j)).0 (stands (number (cell t e)) _ 0 (cell t e) (node_cell t e h j) (omega arith) refl)
  stands_ahead _ (a_demand e h) = rw (forth s (place (demand e)) (demand e) (arc_demand e)).0 (stands (number (exposure e)) _ 0 (exposure e) (node_exposure e h) (omega arith) refl)

  stands_back : (k : ℕ) → Kind k → Stands (from (net_of s) (back k)) (back k)
  stands_back _ (a_supply l h) = rw (back_along s l (supply l) (arc_supply l h)).0 (stands (number (lot l)) _ 16 (lot l) (node_lot l h) (omega arith) refl)
  stands_back _ (an_offer l e h j) =
      let m = w.all l h in
      let d : m.0 + 1 - 1 ≡ m.0 = omega arith in
      rw (back_along s (place (offer l e)) (offer l e) (arc_offer l e h j)).0 (stands (number (cell (slot s l) e)) _ (m.0 + 1) (cell (slot s l) e) (node_cell (slot s l) e (slot_low s l h) j) (omega (arith, m.1))
      (cond-false _ _ _ (ne_eqb (m.0 + 1) 0 (λ z. omega arith)) ∙ ap (λ l. back (place (offer l e))) (ap (member (slot s l)) d ∙ m.2)))
  stands_back _ (a_bound t e h j) =
      let d : t + 1 - 1 ≡ t = omega arith in
      rw (back_along s (place (bound t e)) (bound t e) (arc_bound t e h j)).0 (stands (number (exposure e)) _ (t + 1) (exposure e) (node_exposure e j) (omega arith)
      (cond-false _ _ _ (ne_eqb (t + 1) 0 (λ z. omega arith)) ∙ ap (λ t. back (place (bound t e))) d))
  stands_back _ (a_demand e h) = rw (back_along s (place (demand e)) (demand e) (arc_demand e)).0 (stands 1105 _ e sink node_sink h refl)

  pub listed : Listed (net_of s) (deg_of count) (inc_of member)
  listed = record {
    known = λ v i h j. (there v h i j).0;
    leaves = λ v i h j. (there v h i j).1;
    whole = λ a h.
        let k = kind (a / 2) (omega arith) in
        elim (parity a) [
          | inl e ↦ subst (λ b. Stands (from (net_of s) b) b) (sym e) (stands_ahead (a / 2) k)
          | inr e ↦ subst (λ b. Stands (from (net_of s) b) b) (sym e) (stands_back (a / 2) k)
        ];
  }

  pub short_lists : (v : ℕ) → v < 1106 → deg_of count v < 2 ^ 32
  short_lists = every_node (λ v n. deg_of_node count n < 2 ^ 32) (omega arith) (λ _ _. omega arith) (λ t e h j. omega (arith, w.few t h)) (λ _ _. omega arith) (omega arith)
