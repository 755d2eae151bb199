-- The depth-first search. Each arc before a cursor is dead: it has no room, or does not go a layer on, or leads to a node that is given up.
-- A node is given up when its cursor has passed its last arc, so from such a node no arcs with room lead to the sink a layer at a time. When
-- the source is given up, all is blocked. What is sent along such arcs takes room from them only, so dead arcs stay dead.

use Rattle.std.proofs.Common.{◌≡◌, ℕ, suc, ◌+◌, ◌-◌, ◌*◌, ◌^◌, ◌<◌, ◌≤◌, List, length, set, sym, refl, ap, ◌∙◌, subst, inl, inr, arith, length-set}
use Rattle.std.proofs.lemmas.Bool.{cases_eq, cases_lt}
use Rattle.network.specs.Sums.{sum_over}
use Rattle.network.specs.Flow.{Net}
use Rattle.network.specs.Residual.{from, to, room, Listed}
use Rattle.network.specs.Augment.{Onward, stop, Sent, Leads, Blocked}
use Rattle.network.specs.Augment.Leads.{here, on}
use Rattle.network.proofs.Sums.{sum_change, sum_le}
use Rattle.network.proofs.Residual.{from_in, to_in}
use Rattle.network.proofs.Augment.{stop_same, stop_in, trail_mark, trail_none, trail_less, trail_on, trail_end}
use Rattle.flow.specs.Lawful.{Lawful}
use Rattle.flow.specs.Blocking.{Marks, Spent, Cursors, First, Walking}
use Rattle.flow.specs.Lists.{at}
use Rattle.flow.specs.ListsLemmas.{Put, put}

-- the target of a listed arc is a node
pub listed_target : {N : Net} {deg : ℕ → ℕ} {inc : ℕ → ℕ → ℕ} {v r i w : ℕ} → Lawful N deg inc → v < N.nodes → r ≡ deg v → i < r → w ≡ to N (inc v i) → (w < N.nodes) × (N.nodes < 2 ^ 31)
listed_target {N = N} {inc = inc} {v = v} {i = i} L h e l q = (omega (arith, to_in N L.sound (inc v i) (L.listed.known v i h (omega arith))), L.few_nodes)

-- no arcs lead to the sink from a node that is given up
pub no_lead : {N : Net} {deg : ℕ → ℕ} {inc : ℕ → ℕ → ℕ} {f mark cursor : ℕ → ℕ} → Lawful N deg inc → Cursors N deg inc f mark cursor → (v : ℕ) → Leads N f mark v → Spent N deg cursor v → ⊥
no_lead L k v here p = p.0 refl
no_lead {N = N} {deg = deg} {inc = inc} {f = f} {mark = mark} {cursor = cursor} L k v (on a h r l q) p =
    let w = L.listed.whole a h in
    let e : inc (from N a) w.0 ≡ a = w.2 in
    let r' : 0 < room N f (inc (from N a) w.0) = subst (λ x. 0 < room N f x) (sym e) r in
    let l' : Onward N mark (inc (from N a) w.0) = subst (λ x. Onward N mark x) (sym e) l in
    let z = k.dead (from N a) w.0 (from_in N L.sound a h) (omega (arith, w.1, p.1)) r' l' in
    no_lead L k (to N a) q (subst (λ x. Spent N deg cursor (to N x)) e z)

-- a cursor that moves on over dead arcs
module _ {N : Net} {deg : ℕ → ℕ} {inc : ℕ → ℕ → ℕ} {f mark cursor : ℕ → ℕ} (k : Cursors N deg inc f mark cursor) (cursor' : ℕ → ℕ) (u j : ℕ) (m : Put cursor cursor' u j) (low : cursor u ≤ j) (high : j ≤ deg u) where
  grows : (x : ℕ) → cursor x ≤ cursor' x
  grows x = elim (cases_eq x u) [ inl e ↦ omega (arith, ap cursor e, ap cursor' e, m.0) | inr n ↦ omega (arith, m.1 x n) ]

  spent_stays : (x : ℕ) → Spent N deg cursor x → Spent N deg cursor' x
  spent_stays x p = (p.0, omega (arith, p.1, grows x))

  pub cursors_move : ((i : ℕ) → cursor u ≤ i → i < j → 0 < room N f (inc u i) → Onward N mark (inc u i) → Spent N deg cursor (to N (inc u i))) → Cursors N deg inc f mark cursor'
  cursors_move dead = record {
    low = λ v h. elim (cases_eq v u) [ inl e ↦ omega (arith, ap cursor' e, ap deg e, m.0) | inr n ↦ omega (arith, m.1 v n, k.low v h) ];
    dead = λ v i h l r y. elim (cases_lt i (cursor v)) [
      | inl old ↦ spent_stays _ (k.dead v i h old r y)
      | inr new ↦
          let e : v ≡ u = elim (cases_eq v u) [ inl e ↦ e | inr n ↦ absurd (omega (arith, m.1 v n)) ] in
          let ea : inc v i ≡ inc u i = ap (λ x. inc x i) e in
          spent_stays _ (subst (λ a. Spent N deg cursor (to N a)) (sym ea) (dead i (omega (arith, ap cursor e)) (omega (arith, ap cursor' e, m.0)) (subst (λ a. 0 < room N f a) ea r) (subst (λ a. Onward N mark a) ea y)))
    ];
  }

  -- what is left of the arcs
  pub cursors_left : u < N.nodes → (sum_over N.nodes cursor' + cursor u ≡ sum_over N.nodes cursor + j) × (sum_over N.nodes cursor' ≤ sum_over N.nodes deg)
  cursors_left h = (
    omega (arith, sum_change N.nodes u cursor' cursor h m.1, m.0),
    sum_le N.nodes cursor' deg (λ x l. elim (cases_eq x u) [ inl e ↦ omega (arith, ap cursor' e, ap deg e, m.0) | inr n ↦ omega (arith, m.1 x n, k.low x l) ]),
  )

-- all cursors at the first arc
pub cursors_none : (N : Net) (deg : ℕ → ℕ) (inc : ℕ → ℕ → ℕ) (f mark cursor : ℕ → ℕ) → ((v : ℕ) → v < N.nodes → cursor v ≡ 0) → Cursors N deg inc f mark cursor
cursors_none N deg inc f mark cursor z = record { low = λ v h. omega (arith, z v h); dead = λ v i h l. absurd (omega (arith, z v h)) }

-- dead arcs stay dead
pub sent_cursors : {N : Net} {deg : ℕ → ℕ} {inc : ℕ → ℕ → ℕ} {f₀ f mark cursor : ℕ → ℕ} {x u : ℕ} → Listed N deg inc → Sent N f₀ f mark x u → Cursors N deg inc f₀ mark cursor → Cursors N deg inc f mark cursor
sent_cursors {inc = inc} t s k = record {
  low = k.low;
  dead = λ v i h l r y. k.dead v i h l (omega (arith, s.falls (inc v i) (t.known v i h (omega (arith, k.low v h))) y)) y;
}

module _ {N : Net} {deg : ℕ → ℕ} {inc : ℕ → ℕ → ℕ} {f mark : ℕ → ℕ} (L : Lawful N deg inc) (M : Marks N mark) where
  pub walk_start : (cursor path stack : ℕ → ℕ) → stack 0 ≡ N.source → Cursors N deg inc f mark cursor → Walking N deg inc f mark cursor path stack 0
  walk_start cursor path stack e k = record {
    cursors = k;
    trail = trail_none N f mark path;
    nodes = λ i h. let z : i ≡ 0 = omega arith in ap stack z ∙ e ∙ ap (stop N path) (sym z);
    stands = λ i h. absurd (omega arith);
    deep = omega (arith, L.sound.source_in);
  }

  module _ {cursor path stack : ℕ → ℕ} {d : ℕ} (p : Walking N deg inc f mark cursor path stack d) where
    pub stack_in : (i : ℕ) → i ≤ d → stack i < N.nodes
    stack_in i h = omega (arith, p.nodes i h, stop_in N f mark path d L.sound p.trail i h)

    stack_mark : (i : ℕ) → i ≤ d → mark (stack i) ≡ i + 1
    stack_mark i h = ap mark (p.nodes i h) ∙ trail_mark N f mark path d M.first p.trail i h

    -- what descend may ask of the node at the end of the trail
    pub end_in : (v : ℕ) → v ≡ stack d → (v < N.nodes) × (cursor v ≤ deg v) × (mark v ≤ N.nodes) × (d < N.nodes) × (N.nodes < 2 ^ 31) × (deg v < 2 ^ 32)
    end_in v e =
        let h : v < N.nodes = omega (arith, stack_in d (omega arith)) in
        (h, p.cursors.low v h, M.low v h, p.deep, L.few_nodes, L.short_lists v h)

    -- the trail is cut to its first e arcs, and the cursor of the node there moves on
    shift : (cursor' : ℕ → ℕ) (e j : ℕ) → e ≤ d → Put cursor cursor' (stack e) j → cursor (stack e) ≤ j → j ≤ deg (stack e)
        → ((i : ℕ) → cursor (stack e) ≤ i → i < j → 0 < room N f (inc (stack e) i) → Onward N mark (inc (stack e) i) → Spent N deg cursor (to N (inc (stack e) i)))
        → Walking N deg inc f mark cursor' path stack e
    shift cursor' e j h m low high dead = record {
      cursors = cursors_move p.cursors cursor' (stack e) j m low high dead;
      trail = trail_less N f mark path d e h p.trail;
      nodes = λ i l. p.nodes i (omega arith);
      stands = λ i l.
          let n : stack i ≡ stack e → ⊥ = λ y. omega (arith, ap mark y, stack_mark i (omega arith), stack_mark e h) in
          let q = m.1 (stack i) n in
          let z = p.stands i (omega arith) in
          (omega (arith, z.0), ap (inc (stack i)) q ∙ z.1);
      deep = omega (arith, p.deep);
    }

    -- the cursor at the end of the trail moves to the first arc that is open
    pub walk_scan : (cursor' : ℕ → ℕ) (v i : ℕ) → v ≡ stack d → First N deg inc f mark v (cursor v) i → Put cursor cursor' v i → Walking N deg inc f mark cursor' path stack d
    walk_scan cursor' v i e y m =
        let z : First N deg inc f mark (stack d) (cursor (stack d)) i = subst (λ u. First N deg inc f mark u (cursor u) i) e y in
        let h = stack_in d (omega arith) in
        shift cursor' d i (omega arith) (subst (λ u. Put cursor cursor' u i) e m) z.low z.high
        (λ j l q r o. absurd (z.passed j l q r (o.1 ∙ ap (λ x. mark x + 1) (L.listed.leaves (stack d) j h (omega (arith, z.high))))))

    -- along the arc at the cursor
    pub walk_on : (path' stack' : ℕ → ℕ) (v i a w : ℕ) → v ≡ stack d → cursor v ≡ i → i < deg v → 0 < room N f (inc v i) → mark (to N (inc v i)) ≡ mark v + 1 → a ≡ inc v i → w ≡ to N (inc v i)
        → Put path path' d a → Put stack stack' (d + 1) w → Walking N deg inc f mark cursor path' stack' (d + 1)
    walk_on path' stack' v i a w ev ei l r y ea ew mp ms =
        let vin : v < N.nodes = omega (arith, stack_in d (omega arith)) in
        let known : a < 2 * N.arcs = omega (arith, L.listed.known v i vin l) in
        let ef : from N a ≡ v = ap (from N) ea ∙ L.listed.leaves v i vin l in
        let et : to N a ≡ w = ap (to N) ea ∙ sym ew in
        let same : (j : ℕ) → j < d → path' j ≡ path j = λ j h. mp.1 j (λ q. omega arith) in
        let o : Onward N mark a = omega (arith, ap mark ef, ap mark et, ap mark ew, stack_mark d (omega arith), ap mark ev) in
        let t = trail_on N f mark path path' d a p.trail same mp.0 known (subst (λ x. 0 < room N f x) (sym ea) r) o (ef ∙ ev ∙ p.nodes d (omega arith)) in
        let te = trail_end N f mark path path' d a p.trail same mp.0 known (subst (λ x. 0 < room N f x) (sym ea) r) o (ef ∙ ev ∙ p.nodes d (omega arith)) in
        let kept : (i : ℕ) → i ≤ d → stack' i ≡ stack i = λ i h. ms.1 i (λ q. omega arith) in
        let win : w < N.nodes = omega (arith, to_in N L.sound a known) in
        record {
          cursors = p.cursors;
          trail = t;
          nodes = λ j h. elim (cases_eq j (d + 1)) [
            | inl q ↦ ap stack' q ∙ ms.0 ∙ sym et ∙ sym te ∙ ap (stop N path') (sym q)
            | inr n ↦ kept j (omega arith) ∙ p.nodes j (omega arith) ∙ sym (stop_same N path' path j d (omega arith) same)
          ];
          stands = λ j h. elim (cases_eq j d) [
            | inl q ↦
                let es : stack' j ≡ v = ap stack' q ∙ kept d (omega arith) ∙ sym ev in
                let ec : cursor (stack' j) ≡ i = ap cursor es ∙ ei in
                (omega (arith, ec, ap deg es), ap (λ u. inc u (cursor (stack' j))) es ∙ ap (inc v) ec ∙ sym ea ∙ sym (ap path' q ∙ mp.0))
            | inr n ↦
                let es = kept j (omega arith) in
                let z = p.stands j (omega arith) in
                (omega (arith, z.0, ap cursor es, ap deg es), ap (λ u. inc u (cursor u)) es ∙ z.1 ∙ sym (same j (omega arith)))
          ];
          deep = omega (arith, M.low w win, ap mark ew, ap mark ev, stack_mark d (omega arith));
        }

    -- back from a node that is given up, past the arc that led to it
    pub walk_back : (cursor' : ℕ → ℕ) (v : ℕ) → v ≡ stack d → 0 < d → (v ≡ N.sink → ⊥) → deg v ≤ cursor v → Put cursor cursor' (stack (d - 1)) (cursor (stack (d - 1)) + 1)
        → Walking N deg inc f mark cursor' path stack (d - 1)
    walk_back cursor' v ev h ns full m =
        let z = p.stands (d - 1) (omega arith) in
        let ed : suc (d - 1) ≡ d = omega arith in
        let et : to N (path (d - 1)) ≡ v = ap (stop N path) ed ∙ sym (p.nodes d (omega arith)) ∙ sym ev in
        shift cursor' (d - 1) (cursor (stack (d - 1)) + 1) (omega arith) m (omega arith) (omega (arith, z.0))
        (λ i l q r o.
        let ei : i ≡ cursor (stack (d - 1)) = omega arith in
        let ea : inc (stack (d - 1)) i ≡ path (d - 1) = ap (inc (stack (d - 1))) ei ∙ z.1 in
        subst (λ u. Spent N deg cursor u) (sym (ap (to N) ea ∙ et)) (ns, full))

    -- before that, the arc at the cursor is there to pass
    pub last_in : 0 < d → (stack (d - 1) < N.nodes) × (cursor (stack (d - 1)) < deg (stack (d - 1))) × (deg (stack (d - 1)) < 2 ^ 32)
    last_in h =
        let i = stack_in (d - 1) (omega arith) in
        (i, (p.stands (d - 1) (omega arith)).0, L.short_lists (stack (d - 1)) i)

    pub walk_none : (v : ℕ) → v ≡ stack d → d ≡ 0 → (v ≡ N.sink → ⊥) → deg v ≤ cursor v → Blocked N f mark
    walk_none v ev e ns full q =
        let es : v ≡ N.source = ev ∙ p.nodes d (omega arith) ∙ ap (stop N path) e in
        no_lead L p.cursors N.source q (subst (λ u. Spent N deg cursor u) es (ns, full))

-- one turn of the search: the cursor at the end of the trail moves to the first arc that is open
module _ {N : Net} {deg : ℕ → ℕ} {inc : ℕ → ℕ → ℕ} {f mark path stack : ℕ → ℕ} {d v i : ℕ} (L : Lawful N deg inc) (M : Marks N mark) (cursor : List ℕ)
    (p : Walking N deg inc f mark (at cursor) path stack d × (v ≡ stack d)) (y : First N deg inc f mark v (at cursor v) i) (long : N.nodes ≤ length cursor) where
  moved : Put (at cursor) (at (set cursor v i)) v i
  moved = put cursor v i (let E = end_in L M p.0 v p.1 in omega (arith, E))

  pub scan : Walking N deg inc f mark (at (set cursor v i)) path stack d
  scan = walk_scan L M p.0 _ v i p.1 y moved

  pub scan_at : at (set cursor v i) v ≡ i
  scan_at = moved.0

  pub scan_left : (sum_over N.nodes (at cursor) ≤ sum_over N.nodes (at (set cursor v i))) × (sum_over N.nodes (at (set cursor v i)) ≤ sum_over N.nodes deg)
  scan_left =
      let l = cursors_left p.0.cursors _ v i moved y.low y.high (end_in L M p.0 v p.1).0 in
      (omega (arith, l, y.low), l.1)

  -- on along that arc
  pub scan_deep : i < deg v → d + 1 < N.nodes
  scan_deep l =
      let E = end_in L M p.0 v p.1 in
      let o = y.open_now l in
      omega (arith, o.1, M.low (to N (inc v i)) (to_in N L.sound (inc v i) (L.listed.known v i E.0 l)), stack_mark L M p.0 d (omega arith), ap mark p.1)

  pub scan_on : (path' stack' : ℕ → ℕ) (a w : ℕ) → i < deg v → a ≡ inc v i → w ≡ to N (inc v i) → Put path path' d a → Put stack stack' (d + 1) w → Walking N deg inc f mark (at (set cursor v i)) path' stack' (d + 1)
  scan_on path' stack' a w l ea ew mp ms = let o = y.open_now l in walk_on L M scan path' stack' v i a w p.1 scan_at l o.0 o.1 ea ew mp ms

  -- or, where none is open, back to the node before
  module _ (h : 0 < d) where
    abbrev left : List ℕ
    left = set cursor v i

    abbrev prior : ℕ
    prior = stack (d - 1)

    pub back_in : (prior < N.nodes) × (at left prior < deg prior) × (deg prior < 2 ^ 32) × (N.nodes ≤ length left)
    back_in =
        let z = last_in L M scan h in
        (z.0, z.1, z.2, omega (arith, length-set cursor v i))

    past : Put (at left) (at (set left prior (at left prior + 1))) prior (at left prior + 1)
    past = put left prior (at left prior + 1) (let z = back_in in omega (arith, z))

    pub back_walk : (v ≡ N.sink → ⊥) → deg v ≤ i → Walking N deg inc f mark (at (set left prior (at left prior + 1))) path stack (d - 1)
    back_walk ns full = walk_back L M scan _ v p.1 h ns (omega (arith, scan_at)) past

    pub back_left : (sum_over N.nodes (at (set left prior (at left prior + 1))) ≡ sum_over N.nodes (at left) + 1) × (sum_over N.nodes (at (set left prior (at left prior + 1))) ≤ sum_over N.nodes deg)
    back_left =
        let z = back_in in
        let l = cursors_left scan.cursors _ prior (at left prior + 1) past (omega arith) (omega (arith, z)) z.0 in
        (omega (arith, l), l.1)
