use Rattle.std.proofs.Common.{◌^◌, ◌<◌, ltb, sym, ap, ◌∙◌, arith}
use Rattle.std.proofs.lemmas.Bool.{ltb-true, ltb-false}
use Rattle.network.specs.Residual.{room}
use Rattle.flow.specs.Lists.{at}
use Rattle.flow.specs.ListsLemmas.{put, put_at}
use Rattle.flow.proofs.Bfs.{bfs_hand, bfs_space, spread_as, spread_skip, spread_old, spread_push, spread_end, hand_target, hand_open}
use Rattle.flow.proofs.residual.Residual.spread.Given.{Over}
use Rattle.flow.proofs.residual.Residual.spread.Goals as goal
use Rattle.flow.proofs.residual.Residual.spread.Goals.{then-mark-w-eq0+then-has_room, else-mark-w-eq0, else-mark-w-eq0-via-then-mark-w-eq0+else-has_room, else-mark-w-eq0-via-else-mark-w-eq0}

-- a node that is met for the first time is a node, and the queue has room for it
fresh : (g : Over) (c : goal.Then-has_room g) → (c.target-w.result < (g.G.Network.net c.args.self.now.network.now).nodes) × (c.loop-i.count < (g.G.Network.net c.args.self.now.network.now).nodes) × ((g.G.Network.net c.args.self.now.network.now).nodes < 2 ^ 31)
fresh g c =
    let L = g.met.G.Network.lawful c.args.self.now.network.now in
    let h = hand_target L c.loop-i.invariant c.degree-i-end.ensures c.loop-i-test.true c.target-w.ensures in
    (h.0, bfs_space c.loop-i.invariant.bfs c.target-w.result h.0 c.if-mark-w-eq0.true, L.few_nodes)

pub offset_bounds-queue-done : goal.offset_bounds-queue-done
offset_bounds-queue-done g c = let h = bfs_hand c.requires.midway.0 c.requires.midway.1 in omega (arith, h, (g.met.G.Network.lawful c.args.self.now.network.now).few_nodes)

pub bounds-queue-done : goal.bounds-queue-done
bounds-queue-done g c = let h = bfs_hand c.requires.midway.0 c.requires.midway.1 in omega (arith, h, c.requires.fits)

pub overflow_add-layer : goal.overflow_add-layer
overflow_add-layer g c = let h = bfs_hand c.requires.midway.0 c.requires.midway.1 in omega (arith, h, (g.met.G.Network.lawful c.args.self.now.network.now).few_nodes)

-- the target of the arc in hand is a node
pub offset_bounds-mark-w : goal.offset_bounds-mark-w
offset_bounds-mark-w g c = let h = hand_target (g.met.G.Network.lawful c.args.self.now.network.now) c.loop-i.invariant c.degree-i-end.ensures c.loop-i-test.true c.target-w.ensures in omega (arith, h)

pub bounds-mark-w : goal.bounds-mark-w
bounds-mark-w g c = let h = hand_target (g.met.G.Network.lawful c.args.self.now.network.now) c.loop-i.invariant c.degree-i-end.ensures c.loop-i-test.true c.target-w.ensures in omega (arith, h, c.requires.fits)

pub offset_bounds-mark-w-then-has_room : goal.offset_bounds-mark-w-then-has_room
offset_bounds-mark-w-then-has_room g c = let h = fresh g c in omega (arith, h)

pub bounds-mark-w-then-has_room : goal.bounds-mark-w-then-has_room
bounds-mark-w-then-has_room g c = let h = fresh g c in omega (arith, h, c.requires.fits)

pub overflow_cast-queue : goal.overflow_cast-queue
overflow_cast-queue g c = let h = fresh g c in omega (arith, h)

pub offset_bounds-queue-count : goal.offset_bounds-queue-count
offset_bounds-queue-count g c = let h = fresh g c in omega (arith, h)

pub bounds-queue-count : goal.bounds-queue-count
bounds-queue-count g c = let h = fresh g c in omega (arith, h, c.requires.fits)

pub overflow_add-count : goal.overflow_add-count
overflow_add-count g c = let h = fresh g c in omega (arith, h)

pub loop-i-preserved : goal.loop-i-preserved
loop-i-preserved g c =
    let L = g.met.G.Network.lawful c.args.self.now.network.now in
    let e = c.target-w.ensures in
    let I = hand_open c.degree-i-end.ensures c.loop-i-test.true in
    elim c.if-mark-w-eq0.branch [
      | then-mark-w-eq0+then-has_room w ↦
          let h = hand_target L c.loop-i.invariant c.degree-i-end.ensures c.loop-i-test.true e in
          let space = bfs_space c.loop-i.invariant.bfs c.target-w.result h.0 w.if-mark-w-eq0.true in
          spread_as w.mark-is w.queue-is w.count-is
          (spread_push L.sound L.listed c.loop-i.invariant _ _ I
          (ltb-true 0 _ (ap (λ a. ltb 0 (room _ _ a)) (sym w.leaving.ensures) ∙ sym w.has_room.ensures ∙ w.if-has_room.true))
          (ap (at c.loop-i.mark) (sym e) ∙ w.if-mark-w-eq0.true)
          (put_at c.loop-i.mark c.target-w.result _ _ e (omega (arith, h, c.requires.fits)))
          (let q = put c.loop-i.queue c.loop-i.count c.target-w.result (omega (arith, space, c.requires.fits)) in (q.0 ∙ e, q.1)))
      | else-mark-w-eq0 w ↦ spread_as w.mark-is w.queue-is w.count-is (elim w.else-mark-w-eq0.branch [
        | else-mark-w-eq0-via-then-mark-w-eq0+else-has_room u ↦
            spread_skip L.sound L.listed c.loop-i.invariant (λ r. absurd (let z = ltb-false 0 _ (sym u.has_room.ensures ∙ u.if-has_room.false) in omega (arith, z, ap (room (g.G.Network.net c.args.self.now.network.now) (at c.args.self.now.flow.now)) u.leaving.ensures)))
        | else-mark-w-eq0-via-else-mark-w-eq0 u ↦
            spread_old L.sound L.listed c.loop-i.invariant I (omega (arith, u.if-mark-w-eq0.false, ap (at c.loop-i.mark) e))
      ])
    ]

pub returns-clause-settled : goal.returns-clause-settled
returns-clause-settled g c =
    let L = g.met.G.Network.lawful c.args.self.now.network.now in
    spread_end L.sound L.listed c.loop-i.invariant (omega (arith, c.degree-i-end.ensures, c.loop-i-test.false, c.loop-i.auto.i-end))
