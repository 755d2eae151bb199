-- A search that stops at the sink's layer.
--
-- When the sink gets its mark, each node of an earlier layer than that of the node in hand has its arcs settled. So a walk that is shorter
-- than the sink is far passes nodes with a mark, each as near as the walk says. Hence marks that are set are distances, and nodes without
-- one are no nearer than the sink. Such nodes are on no layered path to the sink, so the marks and the true layers have the same layered
-- paths to it; and what the marks block, the true layers find blocked.

use Rattle.std.proofs.Common.{◌≡◌, ℕ, zero, suc, ◌+◌, ◌-◌, ◌*◌, ◌<◌, ◌≤◌, sym, ap, subst, inl, inr, arith}
use Rattle.std.proofs.lemmas.Bool.{cases_lt}
use Rattle.network.specs.Flow.{Net, Sound, Flow}
use Rattle.network.specs.Residual.{from, to, Walk, Distances, Layers}
use Rattle.network.specs.Residual.Walk.{stay, step}
use Rattle.network.specs.Round.{Round}
use Rattle.network.specs.Augment.{Onward, Leads}
use Rattle.network.specs.Augment.Leads.{here, on}
use Rattle.network.proofs.Residual.{from_in, to_in}
use Rattle.network.proofs.Layers.{layers_distances, distance, distances, walk_in}
use Rattle.network.proofs.Blocking.{round_of}
use Rattle.flow.specs.Search.{Bfs, Nearer, Searched}
use Rattle.flow.specs.Blocking.{Filled}
use Rattle.flow.proofs.Bfs.{bfs_fits}

module _ {N : Net} {f mark queue : ℕ → ℕ} {done count : ℕ} (s : Sound N) (b : Bfs N f mark queue done count) where
  -- all queued nodes are done
  bfs_layers : done ≡ count → Layers N f mark
  bfs_layers e = record {
    first = b.first;
    onward = λ a h r p.
        let w = b.found (from N a) (from_in N s a h) p in
        let o = b.past w.0 (omega (arith, w.1)) a h (sym w.2) r in
        omega (arith, o, ap mark w.2);
    backward = b.backward;
    lone = b.lone;
  }

  -- a marked node has a walk as long as its mark says
  climbs : (d v : ℕ) → v < N.nodes → mark v ≡ suc d → Walk N f v d
  climbs zero v h e = subst (λ u. Walk N f u 0) (sym (b.lone v h e)) stay
  climbs (suc d) v h e =
      let k = b.backward v h (omega arith) in
      let w = climbs d (from N k.0) (from_in N s k.0 k.1) (omega (arith, k.4)) in
      subst (λ u. Walk N f u (suc d)) k.3 (step k.0 w k.1 k.2)

  -- a walk no longer than the layer of the node in hand comes to a node with a mark
  module _ (open_now : done < count) where
    near_walk : (v d : ℕ) → Walk N f v d → d < mark (queue done) → (0 < mark v) × (mark v ≤ d + 1)
    near_walk v d stay h = omega (arith, b.first)
    near_walk v d (step {d = n} a w l r) h =
        let i = near_walk (from N a) n w (omega arith) in
        let q = b.found (from N a) (from_in N s a l) i.0 in
        let before : q.0 < done = elim (cases_lt q.0 done) [
          | inl y ↦ y
          | inr y ↦ absurd (omega (arith, b.sorted done q.0 y q.1, ap mark q.2, i.1))
        ] in
        let o = b.past q.0 before a l (sym q.2) r in
        omega (arith, o, ap mark q.2, i)

    marks_low : (v : ℕ) → v < N.nodes → 0 < mark v → mark v ≤ mark (queue done) + 1
    marks_low v h p = let q = b.found v h p in omega (arith, b.near q.0 open_now q.1, ap mark q.2)

    bfs_nearer : 0 < mark N.sink → Nearer N f mark
    bfs_nearer p = record {
      least = λ v d w q. elim (cases_lt d (mark (queue done))) [
        | inl y ↦ (near_walk v d w y).1
        | inr y ↦ omega (arith, marks_low v (walk_in N f s v d w) q)
      ];
      reached = λ v h q. climbs (mark v - 1) v h (omega arith);
      whole = λ v d w h. (near_walk v d w (omega (arith, marks_low N.sink s.sink_in p))).0;
    }

  pub bfs_searched : (done < count → 0 < mark N.sink) → Searched N f mark
  bfs_searched stops = record {
    first = b.first;
    low = λ v h. omega (arith, b.low v h, bfs_fits b);
    out = λ z. elim (cases_lt done count) [
      | inl y ↦ absurd (omega (arith, stops y))
      | inr y ↦ layers_distances N f mark s (bfs_layers (omega (arith, b.bound)))
    ];
    near = λ p. elim (cases_lt done count) [
      | inl y ↦ bfs_nearer y p
      | inr y ↦
          let l = layers_distances N f mark s (bfs_layers (omega (arith, b.bound))) in
          record {
            least = λ v d w _. (l.least v d w).1;
            reached = l.reached;
            whole = λ v d w _. (l.least v d w).0;
          }
    ];
  }

-- marks as far as the sink, against the true layers
module _ (N : Net) (f mark dist : ℕ → ℕ) (s : Sound N) (n : Nearer N f mark) (l : Distances N f dist) (p : 0 < mark N.sink) where
  exact : (v : ℕ) → v < N.nodes → 0 < mark v → dist v ≡ mark v
  exact v h q =
      let w = l.least v _ (n.reached v h q) in
      let k = n.least v _ (l.reached v h w.0) q in
      omega (arith, w, k)

  complete : (v : ℕ) → v < N.nodes → 0 < dist v → dist v < dist N.sink → mark v ≡ dist v
  complete v h q y = sym (exact v h (n.whole v _ (l.reached v h q) (omega (arith, exact N.sink s.sink_in p))))

  onward_there : (a : ℕ) → a < 2 * N.arcs → Onward N mark a → Onward N dist a
  onward_there a h o =
      let e = exact (from N a) (from_in N s a h) o.0 in
      let d = exact (to N a) (to_in N s a h) (omega arith) in
      omega (arith, o, e, d)

  -- arcs a true layer on that lead to the sink are arcs a mark on
  leads_back : (g : ℕ → ℕ) (v : ℕ) → v < N.nodes → 0 < dist v → Leads N g dist v → (mark v ≡ dist v) × (dist v ≤ dist N.sink) × Leads N g mark v
  leads_back g v h q here = (sym (exact N.sink h p), omega arith, here)
  leads_back g v h q (on a k r o w) =
      let i = leads_back g (to N a) (to_in N s a k) (omega (arith, o)) w in
      let m = complete (from N a) h q (omega (arith, o, i)) in
      (m, omega (arith, o, i), on a k r (omega (arith, o, i, m)) i.2)

  pub nearer_round : (f' : ℕ → ℕ) → Flow N f → Filled N f f' mark → Round N f f'
  nearer_round f' q z =
      round_of N f f' dist l (omega (arith, exact N.sink s.sink_in p)) q z.flows
      (λ b h c. onward_there b h (z.only b h c))
      (λ w. z.blocks (leads_back f' N.source s.source_in (l.least N.source 0 stay).0 w).2)

pub searched_round : (N : Net) (f f' mark : ℕ → ℕ) → Sound N → Searched N f mark → 0 < mark N.sink → Flow N f → Filled N f f' mark → Round N f f'
searched_round N f f' mark s n p q z = nearer_round N f mark (distance N f) s (n.near p) (distances N f s) p f' q z
