-- Lawful tables are the flows of the drawn network.
--
-- A table is sent along the arcs: a lot is given what it pledges, hands each exposure's part to the cell of its issuer there, the
-- cells hand it to the exposures, and these to the sink. So each node passes on what it gets, whatever the table. The law on a
-- pledge's ground is the capacity of a lot's arcs to the cells, the law on a lot's value that of its arc from the source, the law
-- on an issuer's limit that of the cell's arc, and the law on an exposure's amount that of its arc to the sink. Here an issuer's
-- lots are those with the issuer's smallest held lot place for their slot; an issuer of no held lot has no pledges.
-- So a table is lawful exactly if it is within the capacities, and then a flow. Back, conservation says what a flow sends along
-- each arc once its pledges are known, so it is the flow of its table. The value is what the lots are given: all pledges.

use Rattle.std.proofs.Common.{◌≡◌, ℕ, ◌<◌, ◌≤◌, true, false, ◌&&◌, eqb, ◌⊎◌, ◌↔◌, sym, refl, ap, ◌∙◌, inl, inr, arith}
use Rattle.std.proofs.lemmas.Bool.{eq-eqb, eqb-true, cases_lt, cases_Bool, cond-true, cond-false, both_ways, and_parts, and_from}
use Rattle.network.specs.Sums.{sum_over, when, Agree}
use Rattle.network.specs.Flow.{Sound, Flow, value}
use Rattle.network.proofs.Sums.{sum_le, sum_none, sum_same, sum_at, sum_term, miss, hit}
use Rattle.table.specs.Table.{Situation, Table, SameTable, Lawful, Covers, allowed, of_issuer, pledged, owed}
use Rattle.table.specs.Drawn.{place, arc, net_of, number, tail_of, head_of, cap_of, slot, slot_of, leads, along, flow_of, table_of}
use Rattle.table.specs.Drawn.Arc.{supply, offer, bound, demand}
use Rattle.table.proofs.Sums.{sum_swap, sum_tight, when_only, when_low}
use Rattle.table.proofs.Arcs.{each, every, arc_supply, arc_offer, arc_bound, arc_demand}
use Rattle.table.proofs.Slots.{slot_low, slot_of_low, slot_of_held, slot_held, slot_issuer, slot_leads}
use Rattle.table.proofs.Balance.{Balanced, balanced_flow, flow_balanced, value_is, by_arcs, by_numbers}

module _ (s : Situation) where
  pub net_sound : Sound (net_of s)
  net_sound = record {
    tails = each (λ a. number (tail_of a) < 1106) (λ l h. omega arith) (λ l e h j. omega arith) (λ t e h j. omega arith) (λ e h. omega arith);
    heads = each (λ a. number (head_of s a) < 1106) (λ l h. omega arith) (λ l e h j. omega (arith, slot_low s l h)) (λ t e h j. omega arith) (λ e h. omega arith);
    source_in = omega arith;
    sink_in = omega arith;
    apart = λ e. omega arith;
  }

  -- every lot is in one cell of an exposure
  by_cells : (g : ℕ → ℕ) → sum_over 64 (λ t. sum_over 64 (λ l. when (eqb t (slot s l)) (g l))) ≡ sum_over 64 g
  by_cells g = sum_swap 64 64 _ ∙ sum_same 64 _ _ (λ l h.
      sum_at 64 (slot s l) (λ t. when (eqb t (slot s l)) (g l)) (slot_low s l h) (λ t _ n. miss t (slot s l) (g l) n)
      ∙ hit (slot s l) (slot s l) (g l) refl)

  module _ (p : Table) where
    -- a table sends on what each node gets
    along_balanced : Balanced s (along s p)
    along_balanced = record { lots = λ l h. refl; cells = λ t e h j. refl; exposures = λ e h. by_cells (λ l. p l e) }

    pub pledged_value : value (net_of s) (flow_of s p) ≡ pledged p
    unfolding pledged
    pledged_value = value_is s (along s p) (flow_of s p) (by_arcs (along s p))

    -- the flow's table is the table
    pub table_again : SameTable (table_of (flow_of s p)) p
    table_again l e h j = ap (along s p) (arc_offer l e h j)

    columns : pledged p ≡ sum_over 16 (λ e. sum_over 64 (λ l. p l e))
    unfolding pledged
    columns = sum_swap 64 16 p

  module _ (p : Table) (w : Lawful s p) where
    -- a pledge is 0, or lies on a held lot and an open exposure
    alive : (l e : ℕ) → l < 64 → e < 16 → (p l e ≡ 0) ⊎ ((s.held l ≡ true) × (s.opened e ≡ true))
    alive l e h j = elim (cases_lt 0 (p l e)) [
      | inl q ↦
          let a = and_parts (s.held l) _ (w.grounded l e h j q) in
          inr (a.0, (and_parts (s.opened e) _ a.1).0)
      | inr q ↦ inl (omega arith)
    ]

    dead : (l e : ℕ) → l < 64 → e < 16 → allowed s l e ≡ false → p l e ≡ 0
    dead l e h j n = elim (cases_lt 0 (p l e)) [ inl q ↦ absurd (both_ways _ n (w.grounded l e h j q)) | inr q ↦ omega arith ]

    within_supply : (l : ℕ) → l < 64 → sum_over 16 (λ e. p l e) ≤ cap_of s (supply l)
    within_supply l h = when_only (s.held l) _ _ (w.lots l h) (λ n. sum_none 16 (p l) (λ e j.
        elim (alive l e h j) [ inl z ↦ z | inr y ↦ absurd (both_ways _ n y.0) ]))

    within_demand : (e : ℕ) → e < 16 → sum_over 64 (λ l. p l e) ≤ cap_of s (demand e)
    within_demand e j = when_only (s.opened e) _ _ (w.exposures e j) (λ n. sum_none 64 (λ l. p l e) (λ l h.
        elim (alive l e h j) [ inl z ↦ z | inr y ↦ absurd (both_ways _ n y.1) ]))

    within_offer : (l e : ℕ) → l < 64 → e < 16 → p l e ≤ cap_of s (offer l e)
    within_offer l e h j = when_only (allowed s l e) _ _ (λ y. omega (arith, sum_term 16 e (p l) j, w.lots l h (and_parts (s.held l) _ y).0)) (dead l e h j)

    -- the lots with one slot that pledge are held lots of one issuer
    within_bound : (t e : ℕ) → t < 64 → e < 16 → sum_over 64 (λ l. when (eqb t (slot s l)) (p l e)) ≤ cap_of s (bound t e)
    within_bound t e h j = when_only (leads s t && s.opened e) _ _
        (λ y. omega (
          arith,
          w.issuers e (s.issuer t) j (and_parts (leads s t) _ y).1,
          sum_le 64 (λ l. when (eqb t (slot s l)) (p l e)) (λ l. when (of_issuer s (s.issuer t) l) (p l e)) (λ l k.
              elim (alive l e k j) [
                | inl z ↦ omega (arith, when_low (eqb t (slot s l)) (p l e))
                | inr a ↦ when_only (of_issuer s (s.issuer t) l) _ _ (λ _. when_low _ _) (λ n. miss t (slot s l) (p l e) (λ q.
                    both_ways _ n (and_from (s.held l) _ a.0 (eq-eqb _ _ (sym (ap s.issuer q ∙ (slot_held s l k a.0).1))))))
              ]),
        ))
        (λ n. sum_none 64 _ (λ l k.
        elim (alive l e k j) [
          | inl z ↦ omega (arith, when_low (eqb t (slot s l)) (p l e))
          | inr a ↦ miss t (slot s l) (p l e) (λ q. both_ways _ n (and_from (leads s t) _ (ap (leads s) q ∙ slot_leads s l k a.0) a.1))
        ]))

    pub lawful_within_lem : (k : ℕ) → k < 2128 → flow_of s p k ≤ cap_of s (arc k)
    lawful_within_lem = each (λ a. along s p a ≤ cap_of s a) within_supply within_offer within_bound within_demand

    pub lawful_flow : Flow (net_of s) (flow_of s p)
    lawful_flow = balanced_flow s (along s p) (flow_of s p) (by_arcs (along s p)) (along_balanced p) lawful_within_lem

    pub pledged_owed : pledged p ≤ owed s
    unfolding owed
    pledged_owed = omega (arith, columns p, sum_le 16 _ _ within_demand)

    -- a lawful table covers exactly if all that is owed is pledged: no exposure gets more than its amount
    pub covers_all_lem : Covers s p ↔ (pledged p ≡ owed s)
    unfolding owed
    covers_all_lem = (
      λ c. columns p ∙ sum_same 16 _ _ (λ e j. elim (cases_Bool (s.opened e)) [
        | inl y ↦ c e j y ∙ sym (cond-true _ _ _ y)
        | inr n ↦ omega (arith, within_demand e j, cond-false (s.opened e) (s.amount e) 0 n)
      ]),
      λ q e j y. sum_tight 16 (λ e. sum_over 64 (λ l. p l e)) (λ e. when (s.opened e) (s.amount e)) within_demand (omega (arith, columns p)) e j ∙ cond-true _ _ _ y,
    )

  -- the value of numbers on the arcs is what all lots are given
  pub value_supply : (f : ℕ → ℕ) → value (net_of s) f ≡ sum_over 64 f
  value_supply f = value_is s (λ a. f (place a)) f (by_numbers f)

  module _ (f : ℕ → ℕ) (q : Flow (net_of s) f) where
    pub bal : Balanced s (λ a. f (place a))
    bal = flow_balanced s (λ a. f (place a)) f (by_numbers f) q

    -- what a flow sends along an arc is within that arc's capacity
    pub cap_supply : (l : ℕ) → l < 64 → f (place (supply l)) ≤ cap_of s (supply l)
    cap_supply l h = rw (arc_supply l h) at (q.within (place (supply l)) (omega arith))

    cap_offer : (l e : ℕ) → l < 64 → e < 16 → f (place (offer l e)) ≤ cap_of s (offer l e)
    cap_offer l e h j = rw (arc_offer l e h j) at (q.within (place (offer l e)) (omega arith))

    cap_bound : (t e : ℕ) → t < 64 → e < 16 → f (place (bound t e)) ≤ cap_of s (bound t e)
    cap_bound t e h j = rw (arc_bound t e h j) at (q.within (place (bound t e)) (omega arith))

    cap_demand : (e : ℕ) → e < 16 → f (place (demand e)) ≤ cap_of s (demand e)
    cap_demand e h = rw (arc_demand e) at (q.within (place (demand e)) (omega arith))

    pub lot_sum : (l : ℕ) → l < 64 → sum_over 16 (λ e. table_of f l e) ≡ f (place (supply l))
    lot_sum l h = sym (bal.lots l h)

    exposure_sum : (e : ℕ) → e < 16 → sum_over 64 (λ l. table_of f l e) ≡ f (place (demand e))
    exposure_sum e j = sym (by_cells (λ l. table_of f l e)) ∙ sum_same 64 _ _ (λ t h. bal.cells t e h j) ∙ bal.exposures e j

    -- the held lots of an issuer have its slot
    of_slot : (i l x : ℕ) → when (of_issuer s i l) x ≤ when (eqb (slot_of s i) (slot s l)) x
    of_slot i l x = elim (cases_Bool (of_issuer s i l)) [
      | inl a ↦
          let b = and_parts (s.held l) _ a in
          omega (arith, when_low (of_issuer s i l) x, hit (slot_of s i) (slot s l) x (ap (slot_of s) (sym (eqb-true _ _ b.1)) ∙ sym (slot_issuer s l b.0)))
      | inr a ↦ omega (arith, cond-false (of_issuer s i l) x 0 a)
    ]

    -- and an issuer of no held lot has no pledges
    no_lots : (i e : ℕ) → of_issuer s i (slot_of s i) ≡ false → sum_over 64 (λ l. when (of_issuer s i l) (table_of f l e)) ≡ 0
    no_lots i e n = sum_none 64 _ (λ l h. cond-false (of_issuer s i l) (table_of f l e) 0 (
        elim (cases_Bool (of_issuer s i l)) [ inl a ↦ absurd (both_ways _ n (slot_of_held s i l h a)) | inr a ↦ a ]))

    issuer_sum : (e i : ℕ) → e < 16 → s.opened e ≡ true → sum_over 64 (λ l. when (of_issuer s i l) (table_of f l e)) ≤ s.limit e i
    issuer_sum e i j o =
        elim (cases_Bool (of_issuer s i (slot_of s i))) [
          | inl y ↦
              let low = slot_of_low s i in
              let is : s.issuer (slot_of s i) ≡ i = eqb-true _ _ (and_parts (s.held (slot_of s i)) _ y).1 in
              omega (
                arith,
                sum_le 64 (λ l. when (of_issuer s i l) (table_of f l e)) (λ l. when (eqb (slot_of s i) (slot s l)) (table_of f l e)) (λ l h. of_slot i l (table_of f l e)),
                bal.cells (slot_of s i) e low j,
                cap_bound (slot_of s i) e low j,
                when_low (leads s (slot_of s i) && s.opened e) (s.limit e (s.issuer (slot_of s i))),
                ap (s.limit e) is,
              )
          | inr n ↦ omega (arith, no_lots i e n)
        ]

    pub flow_lawful : Lawful s (table_of f)
    flow_lawful = record {
      grounded = λ l e h j y. elim (cases_Bool (allowed s l e)) [ inl a ↦ a | inr n ↦ absurd (omega (arith, cap_offer l e h j, cond-false (allowed s l e) (s.worth l) 0 n)) ];
      lots = λ l h y. omega (arith, lot_sum l h, cap_supply l h, when_low (s.held l) (s.worth l));
      issuers = issuer_sum;
      exposures = λ e j y. omega (arith, exposure_sum e j, cap_demand e j, when_low (s.opened e) (s.amount e));
    }

    pub flow_value : pledged (table_of f) ≡ value (net_of s) f
    unfolding pledged
    flow_value = sum_same 64 _ _ lot_sum ∙ sym (value_supply f)

    pub value_owed : value (net_of s) f ≤ owed s
    value_owed = omega (arith, flow_value, pledged_owed (table_of f) flow_lawful)

    -- the table's flow is the flow
    pub flow_again : Agree 2128 (flow_of s (table_of f)) f
    flow_again = every (λ a k. along s (table_of f) a ≡ f k) lot_sum (λ l e h j. refl) bal.cells exposure_sum

  -- only the places of a table count
  pub lawful_same : (p q : Table) → SameTable p q → Lawful s p → Lawful s q
  lawful_same p q same w = record {
    grounded = λ l e h j y. w.grounded l e h j (omega (arith, same l e h j));
    lots = λ l h y. omega (arith, w.lots l h y, sum_same 16 (p l) (q l) (λ e j. same l e h j));
    issuers = λ e i j y. omega (arith, w.issuers e i j y, sum_same 64 _ _ (λ l h. ap (when (of_issuer s i l)) (same l e h j)));
    exposures = λ e j y. omega (arith, w.exposures e j y, sum_same 64 (λ l. p l e) (λ l. q l e) (λ l h. same l e h j));
  }

  pub covers_same : (p q : Table) → SameTable p q → Covers s p → Covers s q
  covers_same p q same c e j y = sym (sum_same 64 (λ l. p l e) (λ l. q l e) (λ l h. same l e h j)) ∙ c e j y

  pub flow_same : (p q : Table) → SameTable p q → Agree 2128 (flow_of s p) (flow_of s q)
  flow_same p q same = each (λ a. along s p a ≡ along s q a)
      (λ l h. sum_same 16 (p l) (q l) (λ e j. same l e h j))
      (λ l e h j. same l e h j)
      (λ t e h j. sum_same 64 _ _ (λ l k. ap (when (eqb t (slot s l))) (same l e k j)))
      (λ e j. sum_same 64 (λ l. p l e) (λ l. q l e) (λ l h. same l e h j))

  -- within the capacities, a table is a flow, and so its own table lawful
  pub within_lawful : (p : Table) → ((k : ℕ) → k < 2128 → flow_of s p k ≤ cap_of s (arc k)) → Lawful s p
  within_lawful p w = lawful_same (table_of (flow_of s p)) p (table_again p)
      (flow_lawful (flow_of s p) (balanced_flow s (along s p) (flow_of s p) (by_arcs (along s p)) (along_balanced p) w))
