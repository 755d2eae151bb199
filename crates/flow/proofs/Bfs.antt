-- The breadth-first search. The queue holds the marked nodes, each once, by their layers; so it is as long as there are marked nodes, and a
-- node that has no mark yet leaves room in it. A node that is met again was queued before, and is near because the queue is sorted.

use Rattle.std.proofs.Common.{◌≡◌, ℕ, ◌+◌, ◌*◌, ◌^◌, ◌<◌, ◌≤◌, ltb, List, sym, ap, ◌∙◌, subst, inl, inr, arith}
use Rattle.std.proofs.lemmas.Bool.{cases_eq}
use Rattle.std.proofs.lemmas.Bool.Decides.{nat_tests}
use Rattle.network.specs.Sums.{when}
use Rattle.network.specs.Flow.{Net, Sound}
use Rattle.network.specs.Residual.{from, to, room, Listed}
use Rattle.network.proofs.Sums.{sum_change, sum_le, sum_lt, sum_none, sum_ones}
use Rattle.network.proofs.Residual.{to_in}
use Rattle.flow.specs.Lists.{at}
use Rattle.flow.specs.Lawful.{Lawful}
use Rattle.flow.specs.Search.{Settled, Bfs}
use Rattle.flow.specs.ListsLemmas.{Put}

abbrev counted : (ℕ → ℕ) → ℕ → ℕ
counted mark v = when (ltb 0 (mark v)) 1

counted_le : (mark : ℕ → ℕ) (v : ℕ) → counted mark v ≤ 1
counted_le mark v = grind (arith, nat_tests)

module _ {N : Net} {f mark queue : ℕ → ℕ} {done count : ℕ} (b : Bfs N f mark queue done count) where
  -- a node that is not marked leaves room in the queue
  pub bfs_space : (w : ℕ) → w < N.nodes → mark w ≡ 0 → count < N.nodes
  bfs_space w h z = omega (arith, b.tally, sum_ones N.nodes, sum_lt N.nodes w (counted mark) (λ _. 1) h (λ k l. counted_le mark k) (let e : counted mark w ≡ 0 = grind (arith, nat_tests) in omega arith))

  pub bfs_fits : count ≤ N.nodes
  bfs_fits = omega (arith, b.tally, sum_ones N.nodes, sum_le N.nodes (counted mark) (λ _. 1) (λ k l. counted_le mark k))

  -- one more node, reached by the arc a from the node at done
  module _ (s : Sound N) (mark' queue' : ℕ → ℕ) (a : ℕ) (known : a < 2 * N.arcs) (roomy : 0 < room N f a) (leaves : from N a ≡ queue done) (open_now : done < count) (fresh : mark (to N a) ≡ 0)
      (m : Put mark mark' (to N a) (mark (queue done) + 1)) (q : Put queue queue' count (to N a)) where
    same : (u : ℕ) → 0 < mark u → mark' u ≡ mark u
    same u h = m.1 u (λ e. omega (arith, ap mark e))

    same_q : (i : ℕ) → i < count → (queue' i ≡ queue i) × (mark' (queue' i) ≡ mark (queue i))
    same_q i h =
        let k = q.1 i (λ e. omega arith) in
        (k, ap mark' k ∙ same (queue i) (b.marked i h))

    last_q : mark' (queue' count) ≡ mark (queue done) + 1
    last_q = ap mark' q.0 ∙ m.0

    w_in : to N a < N.nodes
    w_in = to_in N s a known

    pub settled_stays : (l x : ℕ) → Settled N f mark l x → Settled N f mark' l x
    settled_stays l x t r =
        let p = t r in
        let e = same (to N x) p.0 in
        omega arith

    pub bfs_push : Bfs N f mark' queue' done (count + 1)
    bfs_push = record {
      first = same N.source (omega (arith, b.first)) ∙ b.first;
      tally =
          let t = sum_change N.nodes (to N a) (counted mark') (counted mark) w_in (λ k n. ap (λ x. when (ltb 0 x) 1) (m.1 k n)) in
          let p : counted mark (to N a) ≡ 0 = grind (arith, nat_tests) in
          let m0 = m.0 in
          let r : counted mark' (to N a) ≡ 1 = grind (arith, nat_tests) in
          omega (arith, b.tally);
      low = λ v h. elim (cases_eq v (to N a)) [
        | inl e ↦ omega (arith, ap mark' e, m.0, b.low (queue done) (b.inside done open_now))
        | inr n ↦ omega (arith, m.1 v n, b.low v h)
      ];
      inside = λ i h. elim (cases_eq i count) [
        | inl e ↦ omega (arith, ap queue' e, q.0, w_in)
        | inr n ↦ omega (arith, q.1 i n, b.inside i (omega arith))
      ];
      marked = λ i h. elim (cases_eq i count) [
        | inl e ↦ omega (arith, ap (λ j. mark' (queue' j)) e, last_q)
        | inr n ↦ omega (arith, (same_q i (omega arith)).1, b.marked i (omega arith))
      ];
      found = λ v h p. elim (cases_eq v (to N a)) [
        | inl e ↦ (count, omega arith, q.0 ∙ sym e)
        | inr n ↦
            let t = b.found v h (omega (arith, m.1 v n)) in
            (t.0, omega (arith, t.1), (same_q t.0 t.1).0 ∙ t.2)
      ];
      sorted = λ i j l h. elim (cases_eq j count) [
        | inl e ↦ elim (cases_eq i count) [
          | inl d ↦ omega (arith, ap (λ k. mark' (queue' k)) (d ∙ sym e))
          | inr n ↦ omega (arith, ap (λ k. mark' (queue' k)) e, last_q, (same_q i (omega arith)).1, b.near i open_now (omega arith))
        ]
        | inr n ↦ omega (arith, (same_q i (omega arith)).1, (same_q j (omega arith)).1, b.sorted i j l (omega arith))
      ];
      near = λ i g h. elim (cases_eq i count) [
        | inl e ↦ omega (arith, ap (λ k. mark' (queue' k)) e, last_q, (same_q done open_now).1)
        | inr n ↦ omega (arith, (same_q i (omega arith)).1, (same_q done open_now).1, b.near i open_now (omega arith))
      ];
      lone = λ v h e. elim (cases_eq v (to N a)) [
        | inl d ↦ absurd (omega (arith, ap mark' d, m.0, b.marked done open_now))
        | inr n ↦ b.lone v h (sym (m.1 v n) ∙ e)
      ];
      backward = λ v h p. elim (cases_eq v (to N a)) [
        | inl d ↦
            let l = ap mark' leaves in
            let k = same (queue done) (b.marked done open_now) in
            (a, known, roomy, sym d, omega (arith, ap mark' d, m.0))
        | inr n ↦
            let t = b.backward v h (omega (arith, m.1 v n)) in
            let z : 0 < mark (from N t.0) = omega (arith, t.4, m.1 v n) in
            (t.0, t.1, t.2, t.3, omega (arith, t.4, m.1 v n, same (from N t.0) z))
      ];
      past = λ i h x k l.
          let y = same_q i (omega (arith, b.bound)) in
          let old = b.past i h x k (l ∙ y.0) in
          λ r. omega (arith, settled_stays _ x old r, y.1);
      bound = omega (arith, b.bound);
    }

-- within the node at done: its first i arcs are settled
pub record Spreading (N : Net) (inc : ℕ → ℕ → ℕ) (f mark queue : ℕ → ℕ) (done count v layer i : ℕ) : Type 0 where
  pub bfs : Bfs N f mark queue done count
  pub open_now : done < count
  pub node : v ≡ queue done
  pub next : layer ≡ mark v + 1
  pub settled : (j : ℕ) → j < i → Settled N f mark (mark v) (inc v j)

module _ {N : Net} {deg : ℕ → ℕ} {inc : ℕ → ℕ → ℕ} {f mark queue : ℕ → ℕ} {done count v layer i : ℕ} (s : Sound N) (t : Listed N deg inc) (p : Spreading N inc f mark queue done count v layer i) where
  pub node_in : v < N.nodes
  node_in = omega (arith, p.node, p.bfs.inside done p.open_now)

  pub arc_in : i < deg v → inc v i < 2 * N.arcs
  arc_in l = t.known v i node_in l

  pub target_in : i < deg v → to N (inc v i) < N.nodes
  target_in l = to_in N s (inc v i) (arc_in l)

  -- the i-th arc is settled as it is
  pub spread_skip : Settled N f mark (mark v) (inc v i) → Spreading N inc f mark queue done count v layer (i + 1)
  spread_skip h = record {
    bfs = p.bfs;
    open_now = p.open_now;
    node = p.node;
    next = p.next;
    settled = λ j l. elim (cases_eq j i) [
      | inl e ↦ subst (λ k. Settled N f mark (mark v) (inc v k)) (sym e) h
      | inr n ↦ p.settled j (omega arith)
    ];
  }

  -- a node that has its mark is near
  pub spread_old : i < deg v → 0 < mark (to N (inc v i)) → Spreading N inc f mark queue done count v layer (i + 1)
  spread_old l h = spread_skip (λ r.
      let w = p.bfs.found (to N (inc v i)) (target_in l) h in
      (h, omega (arith, ap mark w.2, ap mark p.node, p.bfs.near w.0 p.open_now w.1)))

  pub spread_push : (mark' queue' : ℕ → ℕ) → i < deg v → 0 < room N f (inc v i) → mark (to N (inc v i)) ≡ 0 → Put mark mark' (to N (inc v i)) layer → Put queue queue' count (to N (inc v i))
      → Spreading N inc f mark' queue' done (count + 1) v layer (i + 1)
  spread_push mark' queue' l r z m q =
      let a = inc v i in
      let known = arc_in l in
      let leaves : from N (inc v i) ≡ queue done = t.leaves v i node_in l ∙ p.node in
      let e : layer ≡ mark (queue done) + 1 = omega (arith, p.next, ap mark p.node) in
      let m' : Put mark mark' (to N (inc v i)) (mark (queue done) + 1) = (m.0 ∙ e, m.1) in
      let stays = settled_stays p.bfs s mark' queue' (inc v i) known r leaves p.open_now z m' q in
      let pos = p.bfs.marked done p.open_now in
      let same-v : mark' v ≡ mark v = m.1 v (λ y. omega (arith, ap mark y, ap mark p.node)) in
      record {
        bfs = bfs_push p.bfs s mark' queue' (inc v i) known r leaves p.open_now z m' q;
        open_now = omega (arith, p.open_now);
        node = p.node ∙ sym (q.1 done (λ y. omega (arith, p.open_now)));
        next = p.next ∙ ap (λ x. x + 1) (sym same-v);
        settled = λ j h. elim (cases_eq j i) [
          | inl d ↦ λ _.
              let g = ap (λ k. mark' (to N (inc v k))) d in
              omega (arith, m.0, same-v, p.next)
          | inr n ↦ subst (λ x. Settled N f mark' x (inc v j)) (sym same-v) (stays (mark v) (inc v j) (p.settled j (omega arith)))
        ];
      }

  pub spread_end : i ≡ deg v → Bfs N f mark queue (done + 1) count
  spread_end e = record {
    first = p.bfs.first;
    tally = p.bfs.tally;
    low = p.bfs.low;
    inside = p.bfs.inside;
    marked = p.bfs.marked;
    found = p.bfs.found;
    sorted = p.bfs.sorted;
    near = λ k g h. omega (arith, p.bfs.near k p.open_now h, p.bfs.sorted done (done + 1) (omega arith) g);
    lone = p.bfs.lone;
    backward = p.bfs.backward;
    past = λ k h x y l. elim (cases_eq k done) [
      | inl d ↦
          let ev : from N x ≡ v = l ∙ ap queue d ∙ sym p.node in
          let w = t.whole x y in
          let o : Settled N f mark (mark v) (inc v w.0) = p.settled w.0 (omega (arith, w.1, ap deg ev)) in
          let o' : Settled N f mark (mark v) x = subst (λ z. Settled N f mark (mark v) z) (ap (λ u. inc u w.0) (sym ev) ∙ w.2) o in
          subst (λ u. Settled N f mark (mark u) x) (p.node ∙ sym (ap queue d)) o'
      | inr n ↦ p.bfs.past k (omega arith) x y l
    ];
    bound = omega (arith, p.open_now);
  }

-- the search begins: only the source is marked
module _ (N : Net) (f mark mark' queue : ℕ → ℕ) (s : Sound N) (blank : (v : ℕ) → v < N.nodes → mark v ≡ 0) (m : Put mark mark' N.source 1) (at_first : queue 0 ≡ N.source) where
  start_zero : (v : ℕ) → v < N.nodes → (v ≡ N.source → ⊥) → mark' v ≡ 0
  start_zero v h n = m.1 v n ∙ blank v h

  start_is : (v : ℕ) → v < N.nodes → 0 < mark' v → v ≡ N.source
  start_is v h p = elim (cases_eq v N.source) [ inl e ↦ e | inr n ↦ absurd (omega (arith, start_zero v h n)) ]

  pub bfs_start : Bfs N f mark' queue 0 1
  bfs_start =
      let here = m.0 in
      record {
        first = here;
        tally =
            let t = sum_change N.nodes N.source (counted mark') (counted mark) s.source_in (λ k n. ap (λ x. when (ltb 0 x) 1) (m.1 k n)) in
            let z = sum_none N.nodes (counted mark) (λ k l. let e = blank k l in grind (arith, nat_tests)) in
            let p : counted mark N.source ≡ 0 = let e = blank N.source s.source_in in grind (arith, nat_tests) in
            let q : counted mark' N.source ≡ 1 = grind (arith, nat_tests) in
            omega arith;
        low = λ v h. elim (cases_eq v N.source) [ inl e ↦ omega (arith, ap mark' e) | inr n ↦ omega (arith, start_zero v h n) ];
        inside = λ i h. let e : i ≡ 0 = omega arith in omega (arith, ap queue e, s.source_in);
        marked = λ i h. let e : i ≡ 0 = omega arith in omega (arith, ap mark' (ap queue e ∙ at_first));
        found = λ v h p. (0, omega arith, at_first ∙ sym (start_is v h p));
        sorted = λ i j l h. let e : i ≡ j = omega arith in omega (arith, ap (λ k. mark' (queue k)) e);
        near = λ i g h. let e : i ≡ 0 = omega arith in omega (arith, ap (λ k. mark' (queue k)) e);
        lone = λ v h e. start_is v h (omega arith);
        backward = λ v h p. absurd (omega (arith, ap mark' (start_is v h (omega arith))));
        past = λ i h. absurd (omega arith);
        bound = omega arith;
      }

-- the numbers of a search fit the words that hold them
module _ {N : Net} {f mark queue : ℕ → ℕ} {done count : ℕ} (b : Bfs N f mark queue done count) (open_now : done < count) where
  pub bfs_hand : (done < N.nodes) × (queue done < N.nodes) × (mark (queue done) ≤ N.nodes)
  bfs_hand =
      let h = b.inside done open_now in
      (omega (arith, bfs_fits b), h, omega (arith, b.low (queue done) h, bfs_fits b))

pub hand_open : {d i r : ℕ} → r ≡ d → i < r → i < d
hand_open e h = omega arith

-- the target of the arc in hand is a node
pub hand_target : {N : Net} {deg : ℕ → ℕ} {inc : ℕ → ℕ → ℕ} {f mark queue : ℕ → ℕ} {done count v layer i r w : ℕ} → Lawful N deg inc → Spreading N inc f mark queue done count v layer i
    → r ≡ deg v → i < r → w ≡ to N (inc v i) → (w < N.nodes) × (N.nodes < 2 ^ 31)
hand_target {N = N} L p e h q = (omega (arith, target_in L.sound L.listed p (hand_open e h)), L.few_nodes)

pub spread_as : {N : Net} {inc : ℕ → ℕ → ℕ} {f : ℕ → ℕ} {mark mark' queue queue' : List ℕ} {done count count' v layer i : ℕ} → mark' ≡ mark → queue' ≡ queue → count' ≡ count
    → Spreading N inc f (at mark) (at queue) done count v layer i → Spreading N inc f (at mark') (at queue') done count' v layer i
spread_as {N = N} {inc = inc} {f = f} {mark = mark} {queue = queue} {queue' = queue'} {done = done} {count' = count'} {v = v} {layer = layer} {i = i} em eq ec p =
    subst (λ m. Spreading N inc f (at m) (at queue') done count' v layer i) (sym em)
    (subst (λ q. Spreading N inc f (at mark) (at q) done count' v layer i) (sym eq)
    (subst (λ k. Spreading N inc f (at mark) (at queue) done k v layer i) (sym ec) p))
