use Rattle.network.proofs.Augment.{Sending}
use Rattle.flow.specs.Lists.{at}
use Rattle.flow.proofs.block.send.Given as goal

abbrev pub invariant-loop-a : goal.invariant-loop-a
invariant-loop-a g l = Sending (g.G.Network.net l.network) (at l.initial.flow) (at l.flow) (at l.memory.mark.now) (at l.memory.path.now) l.x l.d l.a-index
