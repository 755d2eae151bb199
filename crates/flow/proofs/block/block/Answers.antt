use Rattle.std.proofs.Common.{◌∙◌}
use Rattle.flow.specs.Lists.{at}
use Rattle.flow.proofs.LentMemory.{kept_then}
use Rattle.flow.proofs.Sending.{found, sent_slack, sent_filling}
use Rattle.flow.proofs.block.block.Goals as goal

pub loop-d-smaller : goal.loop-d-smaller
loop-d-smaller g c =
    let e = c.in-Some.ensures in
    sent_slack (g.met.G.Network.lawful c.args.network.now) (found c.loop-d.invariant.2 e.marks e.descended.1) e.descended.2 c.bottleneck-x.ensures (at c.send.new.flow) c.send.ensures.sent c.send.ensures.along

pub loop-d-preserved : goal.loop-d-preserved
loop-d-preserved g c =
    let e = c.in-Some.ensures in (
      kept_then c.loop-d.invariant.0 e.kept,
      e.marks ∙ c.loop-d.invariant.1,
      sent_filling (g.met.G.Network.lawful c.args.network.now) (found c.loop-d.invariant.2 e.marks e.descended.1) e.descended.2 c.bottleneck-x.ensures (at c.send.new.flow) c.send.ensures.sent c.send.ensures.along,
    )
