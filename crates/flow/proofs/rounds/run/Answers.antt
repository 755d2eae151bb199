use Rattle.std.proofs.Common.{refl, sym, ap, ◌∙◌, arith}
use Rattle.std.proofs.lemmas.Bool.{ltb-true, ltb-false}
use Rattle.flow.specs.Lists.{at}
use Rattle.flow.proofs.LentMemory.{kept_then}
use Rattle.flow.proofs.Running.{running_none, running_marks, running_few, running_more, running_end}
use Rattle.flow.proofs.rounds.run.Goals as goal

pub loop-flow-init : goal.loop-flow-init
loop-flow-init g c = (record { fits = c.layers.ensures.kept.fits; same = record { mark = refl; queue = refl; cursor = refl; path = refl; mark_size = refl; queue_size = refl; cursor_size = refl; path_size = refl } }, running_none c.requires.1.1.1.0 c.requires.1.1.1.1 c.layers.ensures.searched)

pub block-requires-clause-marks : goal.block-requires-clause-marks
block-requires-clause-marks g c = running_marks (g.met.G.Network.lawful c.args.network.now).sound c.loop-flow.invariant.1

pub block-requires-clause-flows : goal.block-requires-clause-flows
block-requires-clause-flows g c = c.loop-flow.invariant.1.flows

pub overflow_add-rounds : goal.overflow_add-rounds
overflow_add-rounds g c = let L = g.met.G.Network.lawful c.args.network.now in omega (arith, running_few L.sound c.loop-flow.invariant.1, L.few_nodes)

pub loop-flow-smaller : goal.loop-flow-smaller
loop-flow-smaller g c = omega (arith, running_few (g.met.G.Network.lawful c.args.network.now).sound c.loop-flow.invariant.1)

pub loop-flow-preserved : goal.loop-flow-preserved
loop-flow-preserved g c = (
  kept_then (kept_then c.loop-flow.invariant.0 c.block.ensures.kept) c.layers-in-loop-flow.ensures.kept,
  running_more (g.met.G.Network.lawful c.args.network.now).sound c.loop-flow.invariant.1
      (omega (arith, ltb-true 0 _ (sym c.reached.ensures ∙ c.loop-flow-test.true), ap (at c.loop-flow.memory.mark.now) c.sink-t.ensures)) c.block.ensures.filled c.layers-in-loop-flow.ensures.searched,
)

pub returns-clause-solved : goal.returns-clause-solved
returns-clause-solved g c =
    running_end (g.met.G.Network.lawful c.args.network.now).sound c.loop-flow.invariant.1 (omega (arith, ltb-false 0 _ (sym c.reached.ensures ∙ c.loop-flow-test.false), ap (at c.loop-flow.memory.mark.now) c.sink-t.ensures))
