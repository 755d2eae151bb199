-- Shortage records: what is reached explains the shortage, and no lawful table leaves less than any record explains.
--
-- Both go by one fact about cuts. Let no drawn arc from a lot to a cell lead out of the cut. Then the cut's capacity is that of the
-- lots outside, of the cells inside at exposures outside, and of the exposures inside; so with the amounts of the exposures outside
-- it comes to all that is owed, the values of the lots outside and the limits of those cells. That is a record's equation.
--
-- The nodes that are reached at the end are such a cut: let a lot be reached, and e an exposure that admits it. If the lot's arc to
-- the cell at e is not full, the cell is reached. If it is full, it carries all of the lot's value, so the lot's arc from the source
-- is full too and no other of its arcs is used; so the lot was reached back through that very cell. By duality the cut's capacity is
-- the flow's value, and the equation gives what is owed less the value.
--
-- Back, a record whoever made it draws such a cut: the source, the unmarked lots and exposures, and the cells of unmarked exposures
-- or marked issuers. Its capacity is what is owed less what the record explains. By weak duality no flow's value passes that, so no
-- table pledges more; and where some table pledges as much, no cut has a smaller capacity.

use Rattle.std.proofs.Common.{◌≡◌, ℕ, ◌+◌, ◌-◌, ◌<◌, ◌≤◌, Bool, true, false, not, ◌&&◌, ◌||◌, ltb, sym, refl, ap, ◌∙◌, inl, inr, arith}
use Rattle.std.proofs.lemmas.Bool.{ltb-true, lt-ltb, cases_eq, cases_Bool, cond-true, false≢true, and_parts, and_from, or_left, or_right}
use Rattle.network.specs.Sums.{sum_over, when}
use Rattle.network.specs.Flow.{Flow, value, Cut, capacity, Minimum}
use Rattle.network.specs.Residual.{Distances}
use Rattle.network.proofs.Sums.{sum_four, sum_zero, sum_same, sum_term}
use Rattle.network.proofs.Duality.{weak_duality_lem}
use Rattle.network.proofs.Layers.{enters}
use Rattle.network.proofs.Layers.Entered.{along, against}
use Rattle.network.proofs.Cut.{forward, reached_cut, value_is_capacity}
use Rattle.table.specs.Table.{Situation, Table, Lawful, allowed, owed, uncovered, Shortage}
use Rattle.table.specs.Drawn.{place, arc, net_of, number, tail_of, head_of, cap_of, slot, leads, drawn_node, flow_of}
use Rattle.table.specs.Drawn.Node.{lot, cell, exposure}
use Rattle.table.specs.Drawn.Arc.{supply, offer}
use Rattle.table.specs.Record.{Marks, Explains, SameMarks, near, cut_of, marks_of}
use Rattle.table.proofs.Sums.{grid_none, grid_same, sum_two, when_low}
use Rattle.table.proofs.Arcs.{every, arc_supply, arc_offer}
use Rattle.table.proofs.Nodes.{node_source, node_lot, node_cell, node_exposure, node_sink}
use Rattle.table.proofs.Slots.{slot_low, slot_leads}
use Rattle.table.proofs.Balance.{across_arcs}
use Rattle.table.proofs.Tables.{net_sound, lot_sum, cap_supply, lawful_flow, pledged_value, pledged_owed}

supply_part : (b h a : Bool) (x : ℕ) → a ≡ true → when (a && not b) (when h x) ≡ when (h && not b) x
supply_part b h a x e = grind (arith, cases_Bool a, cases_Bool b, cases_Bool h)

offer_part : (a b h : Bool) (x : ℕ) → (h ≡ true → a ≡ true → b ≡ true) → when (a && not b) (when h x) ≡ 0
offer_part a b h x e = grind (arith, cases_Bool a, cases_Bool b, cases_Bool h)

bound_part : (a b o d : Bool) (x : ℕ) → when (a && not b) (when (d && o) x) ≡ when ((o && not b) && (d && a)) x
bound_part a b o d x = grind (arith, cases_Bool a, cases_Bool b, cases_Bool o, cases_Bool d)

demand_part : (a b o : Bool) (x : ℕ) → b ≡ false → when (a && not b) (when o x) + when (o && not a) x ≡ when o x + 0
demand_part a b o x e = grind (arith, cases_Bool a, cases_Bool o)

-- no drawn arc from a lot to a cell leads out of S
abbrev Closed : Situation → (ℕ → Bool) → Type 0
Closed s S = (l e : ℕ) → l < 64 → e < 16 → allowed s l e ≡ true → S (number (lot l)) ≡ true → S (number (cell (slot s l) e)) ≡ true

-- the one fact
cut_capacity : (s : Situation) (S : ℕ → Bool) → Cut (net_of s) S → Closed s S
    → capacity (net_of s) S + sum_over 16 (λ e. when ((marks_of s S).exposures e) (s.amount e))
    ≡ owed s + sum_over 64 (λ l. when ((marks_of s S).lots l) (s.worth l)) + sum_over 64 (λ t. sum_over 16 (λ e. when ((marks_of s S).issuers e t) (s.limit e (s.issuer t))))
unfolding owed
cut_capacity s S c closed = omega (
  arith,
  across_arcs s S (cap_of s),
  sum_same 64 _ _ (λ l h. supply_part (S (number (lot l))) (s.held l) (S 0) (s.worth l) c.has_source),
  grid_none 64 16 _ (λ l e h j. offer_part (S (number (lot l))) (S (number (cell (slot s l) e))) (allowed s l e) (s.worth l) (closed l e h j)),
  grid_same 64 16 _ _ (λ t e h j. bound_part (S (number (cell t e))) (S (number (exposure e))) (s.opened e) (leads s t) (s.limit e (s.issuer t))),
  sum_four 16 _ _ _ (λ _. 0) (λ e h. demand_part (S (number (exposure e))) (S 1105) (s.opened e) (s.amount e) c.lacks_sink),
  sum_zero 16,
)

-- the only arc into a lot is that from the source, and the arcs out of it are those to its cells
into_lot : (s : Situation) (l k : ℕ) → k < 2128 → number (head_of s (arc k)) ≡ number (lot l) → l < 64 → k ≡ place (supply l)
into_lot s l k h q j = every (λ a k. number (head_of s a) ≡ number (lot l) → k ≡ place (supply l))
    (λ m i r. omega arith) (λ m e i o r. absurd (omega arith)) (λ t e i o r. absurd (omega arith)) (λ e i r. absurd (omega arith)) k h q

out_of_lot : (s : Situation) (l k : ℕ) → k < 2128 → number (tail_of (arc k)) ≡ number (lot l) → l < 64 → (e : ℕ) × (e < 16) × (k ≡ place (offer l e))
out_of_lot s l k h q j = every (λ a k. number (tail_of a) ≡ number (lot l) → (e : ℕ) × (e < 16) × (k ≡ place (offer l e)))
    (λ m i r. absurd (omega arith)) (λ m e i o r. (e, o, omega arith)) (λ t e i o r. absurd (omega arith)) (λ e i r. absurd (omega arith)) k h q

module _ (s : Situation) (f mark : ℕ → ℕ) (q : Flow (net_of s) f) (d : Distances (net_of s) f mark) (no-sink : mark 1105 ≡ 0) where
  abbrev got : ℕ → Bool
  got v = ltb 0 (mark v)

  -- along an arc from a lot with room
  onward : (l e : ℕ) → l < 64 → e < 16 → allowed s l e ≡ true → 0 < mark (number (lot l)) → f (place (offer l e)) < s.worth l → 0 < mark (number (cell (slot s l) e))
  onward l e h j y p r =
      let a = arc_offer l e h j in
      let c : cap_of s (arc (place (offer l e))) ≡ s.worth l = ap (cap_of s) a ∙ cond-true _ _ _ y in
      let t : 0 < mark (number (tail_of (arc (place (offer l e))))) = rw a p in
      rw a at (forward (net_of s) f mark (net_sound s) q d no-sink (place (offer l e)) (omega arith) (omega arith) t)

  reached_closed : (l e : ℕ) → l < 64 → e < 16 → allowed s l e ≡ true → 0 < mark (number (lot l)) → 0 < mark (number (cell (slot s l) e))
  reached_closed l e h j y p =
      let b = lot_sum s f q l h in
      let g : f (place (supply l)) ≤ s.worth l = omega (arith, cap_supply s f q l h, when_low (s.held l) (s.worth l)) in
      elim (enters (net_of s) f mark d (number (lot l)) (omega arith) p (λ i. omega arith)) [
        | along k i r u m ↦
            let k-is = into_lot s l k i u h in
            let r' : f (place (supply l)) < s.worth l =
            omega (arith, (rw (k-is, arc_supply l h) at r), when_low (s.held l) (s.worth l)) in
            onward l e h j y p (omega (arith, sum_term 16 e (λ e. f (place (offer l e))) j))
        | against k i r u m ↦
            let o = out_of_lot s l k i u h in
            let used : 0 < f (place (offer l o.0)) = rw o.2 at r in
            let back : 0 < mark (number (head_of s (arc (place (offer l o.0))))) = rw o.2 at m in
            let here : 0 < mark (number (cell (slot s l) o.0)) = rw (arc_offer l o.0 h o.1) at back in
            elim (cases_eq o.0 e) [
              | inl z ↦ rw z at here
              | inr z ↦ onward l e h j y p (omega (arith, sum_two 16 o.0 e (λ e. f (place (offer l e))) o.1 j z))
            ]
      ]

  closed : Closed s got
  closed l e h j y p = lt-ltb 0 _ (reached_closed l e h j y (ltb-true 0 _ p))

  pub reached_explains_lem : value (net_of s) f < owed s → Explains s (marks_of s got) (owed s - value (net_of s) f)
  reached_explains_lem short = record {
    on_open = λ e h y. (and_parts (s.opened e) _ y).0;
    on_held = λ l h y. (and_parts (s.held l) _ y).0;
    on_issuers = λ e t h j y. let a = and_parts (s.opened e && not (got (number (exposure e)))) _ y in (a.0, (and_parts (leads s t) _ a.1).0);
    met = λ l e h j m y.
        let he = (and_parts (s.held l) _ y).0 in
        elim (cases_Bool (got (number (lot l)))) [
          | inl r ↦ or_right ((marks_of s got).lots l) _ (and_from (s.opened e && not (got (number (exposure e)))) _ m (and_from (leads s (slot s l)) _ (slot_leads s l h he) (closed l e h j y r)))
          | inr r ↦ or_left ((marks_of s got).lots l) _ (and_from (s.held l) _ he (ap not r))
        ];
    equation = omega (arith, cut_capacity s got (reached_cut (net_of s) f mark (net_sound s) q d no-sink) closed, value_is_capacity (net_of s) f mark (net_sound s) q d no-sink);
    above = omega arith;
  }

-- records with the same marks explain the same
pub explains_same : (s : Situation) (m n : Marks) (x : ℕ) → SameMarks n m → Explains s m x → Explains s n x
explains_same s m n x w h = record {
  on_open = λ e j y. h.on_open e j (sym (w.exposures e j) ∙ y);
  on_held = λ l i y. h.on_held l i (sym (w.lots l i) ∙ y);
  on_issuers = λ e t j i y. let a = h.on_issuers e t j i (sym (w.issuers e t j i) ∙ y) in (w.exposures e j ∙ a.0, a.1);
  met = λ l e i j y z. ap (λ b. b || n.issuers e (slot s l)) (w.lots l i) ∙ ap (λ b. m.lots l || b) (w.issuers e (slot s l) j (slot_low s l i)) ∙ h.met l e i j (sym (w.exposures e j) ∙ y) z;
  equation = omega (
    arith,
    h.equation,
    sum_same 16 (λ e. when (n.exposures e) (s.amount e)) (λ e. when (m.exposures e) (s.amount e)) (λ e j. ap (λ b. when b (s.amount e)) (w.exposures e j)),
    sum_same 64 (λ l. when (n.lots l) (s.worth l)) (λ l. when (m.lots l) (s.worth l)) (λ l i. ap (λ b. when b (s.worth l)) (w.lots l i)),
    grid_same 64 16 (λ t e. when (n.issuers e t) (s.limit e (s.issuer t))) (λ t e. when (m.issuers e t) (s.limit e (s.issuer t))) (λ t e i j. ap (λ b. when b (s.limit e (s.issuer t))) (w.issuers e t j i)),
  );
  above = h.above;
}

-- the cut of a record
met_again : (a b c : Bool) → (b ≡ true → (a || c) ≡ true) → not a ≡ true → (not b || c) ≡ true
met_again true b c h n = absurd (false≢true n)
met_again false true c h n = h refl
met_again false false c h n = refl

both_not : (a b : Bool) → (b ≡ true → a ≡ true) → b ≡ (a && not (a && not b))
both_not true true h = refl
both_not true false h = refl
both_not false true h = absurd (false≢true (h refl))
both_not false false h = refl

cell_mark : (o b d i : Bool) → (b ≡ true → o ≡ true) → (i ≡ true → (b ≡ true) × (d ≡ true)) → i ≡ ((o && not (o && not b)) && (d && ((d && o) && (not b || i))))
cell_mark o true true true p q = rw (p refl)
cell_mark o true false true p q = absurd (false≢true (q refl).1)
cell_mark o false d true p q = absurd (false≢true (q refl).0)
cell_mark true true true false p q = refl
cell_mark true true false false p q = refl
cell_mark false true d false p q = refl
cell_mark true false d false p q = refl
cell_mark false false d false p q = refl

module _ (s : Situation) (m : Marks) (x : ℕ) (r : Explains s m x) where
  at_lot : (l : ℕ) → l < 64 → cut_of s m (number (lot l)) ≡ (s.held l && not (m.lots l))
  unfolding cut_of
  at_lot l h = ap (λ v. drawn_node s v && near m v) (node_lot l h)

  at_cell : (t e : ℕ) → t < 64 → e < 16 → cut_of s m (number (cell t e)) ≡ ((leads s t && s.opened e) && (not (m.exposures e) || m.issuers e t))
  unfolding cut_of
  at_cell t e h j = ap (λ v. drawn_node s v && near m v) (node_cell t e h j)

  at_exposure : (e : ℕ) → e < 16 → cut_of s m (number (exposure e)) ≡ (s.opened e && not (m.exposures e))
  unfolding cut_of
  at_exposure e h = ap (λ v. drawn_node s v && near m v) (node_exposure e h)

  pub cut : Cut (net_of s) (cut_of s m)
  unfolding cut_of
  cut = record { has_source = ap (λ v. drawn_node s v && near m v) node_source; lacks_sink = ap (λ v. drawn_node s v && near m v) node_sink }

  cut_closed : Closed s (cut_of s m)
  cut_closed l e h j y q =
      let lot-in = and_parts (s.held l) _ (sym (at_lot l h) ∙ q) in
      let opened = (and_parts (s.opened e) _ (and_parts (s.held l) _ y).1).0 in
      at_cell (slot s l) e (slot_low s l h) j
      ∙ and_from (leads s (slot s l) && s.opened e) _ (and_from (leads s (slot s l)) _ (slot_leads s l h lot-in.0) opened)
      (met_again (m.lots l) (m.exposures e) (m.issuers e (slot s l)) (λ b. r.met l e h j b y) lot-in.1)

  -- the cut gives the record's marks again
  cut_marks : SameMarks (marks_of s (cut_of s m)) m
  cut_marks = record {
    exposures = λ e j. sym (both_not (s.opened e) (m.exposures e) (r.on_open e j) ∙ ap (λ b. s.opened e && not b) (sym (at_exposure e j)));
    lots = λ l h. sym (both_not (s.held l) (m.lots l) (r.on_held l h) ∙ ap (λ b. s.held l && not b) (sym (at_lot l h)));
    issuers = λ e t j h. sym (cell_mark (s.opened e) (m.exposures e) (leads s t) (m.issuers e t) (r.on_open e j) (r.on_issuers e t j h)
        ∙ ap (λ b. (s.opened e && not (s.opened e && not (m.exposures e))) && (leads s t && b)) (sym (at_cell t e h j))
        ∙ ap (λ b. (s.opened e && not b) && (leads s t && cut_of s m (number (cell t e)))) (sym (at_exposure e j)));
  }

  pub capacity_left : capacity (net_of s) (cut_of s m) + x ≡ owed s
  capacity_left = omega (arith, (explains_same s m (marks_of s (cut_of s m)) x cut_marks r).equation, cut_capacity s (cut_of s m) cut cut_closed)

  pub record_binds_lem : (p : Table) → Lawful s p → x ≤ uncovered s p
  record_binds_lem p w = omega (arith, capacity_left, pledged_value s p, weak_duality_lem (net_of s) (flow_of s p) (cut_of s m) (lawful_flow s p w) cut (net_sound s))

  -- a table that leaves x uncovered pledges as much as the cut can carry, and no cut carries less than a flow's value
  pub minimum : Shortage s x → Minimum (net_of s) (cut_of s m)
  minimum h = (
    cut,
    λ R other. omega (
      arith,
      capacity_left,
      h.meets,
      pledged_owed s h.table h.lawful,
      pledged_value s h.table,
      weak_duality_lem (net_of s) (flow_of s h.table) R (lawful_flow s h.table h.lawful) other (net_sound s),
    ),
  )
