use Rattle.std.proofs.Common.{refl, ap, ◌∙◌, arith, length-set}
use Rattle.flow.specs.Lists.{at}
use Rattle.flow.specs.ListsLemmas.{put, put_at, zeros}
use Rattle.flow.proofs.Bfs.{bfs_start, bfs_hand}
use Rattle.flow.proofs.Nearer.{bfs_searched}
use Rattle.flow.proofs.residual.Residual.layers.Goals as goal

pub loop-done-init : goal.loop-done-init
loop-done-init g c =
    let L = g.met.G.Network.lawful c.args.self.now.network.now in
    let e = c.source-s.ensures in (
      record {
        fits = record {
          mark = omega (arith, c.requires.mark, c.fill.ensures.len, length-set c.fill.new.self c.source-s.result 1);
          queue = omega (arith, c.requires.queue, length-set c.args.memory.now.queue.now 0 c.source-s.result);
          cursor = c.requires.cursor;
          path = c.requires.path;
        };
        same = record {
          mark = refl;
          queue = refl;
          cursor = refl;
          path = refl;
          mark_size = omega (arith, c.fill.ensures.len, length-set c.fill.new.self c.source-s.result 1);
          queue_size = omega (arith, length-set c.args.memory.now.queue.now 0 c.source-s.result);
          cursor_size = refl;
          path_size = refl;
        };
      },
      bfs_start _ _ _ _ _ L.sound (λ v h. zeros _ _ (c.fill.ensures.after (λ y e. e)) v)
          (put_at c.fill.new.self c.source-s.result 1 _ e (omega (arith, L.sound.source_in, c.requires.mark, c.fill.ensures.len)))
          ((put c.args.memory.now.queue.now 0 c.source-s.result (omega (arith, L.sound.source_in, c.requires.queue))).0 ∙ e),
    )

pub loop-done-smaller : goal.loop-done-smaller
loop-done-smaller g c = let h = bfs_hand c.loop-done.invariant.1 c.loop-done-test.true in omega (arith, h)

pub returns-else-memory-t-eq0-clause-searched : goal.returns-else-memory-t-eq0-clause-searched
returns-else-memory-t-eq0-clause-searched g c =
    bfs_searched (g.met.G.Network.lawful c.args.self.now.network.now).sound c.loop-done.invariant.1 (λ _. omega (arith, c.if-memory-t-eq0.false, ap (at c.loop-done.memory.mark.now) c.sink-t.ensures))

pub returns-after-loop-done-clause-searched : goal.returns-after-loop-done-clause-searched
returns-after-loop-done-clause-searched g c = bfs_searched (g.met.G.Network.lawful c.args.self.now.network.now).sound c.loop-done.invariant.1 (λ h. absurd (omega (arith, c.loop-done-test.false)))
