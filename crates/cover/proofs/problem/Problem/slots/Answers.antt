use Rattle.std.proofs.Common.{arith}
use Rattle.cover.specs.Seen.{seen}
use Rattle.cover.proofs.First.{first_start}
use Rattle.cover.proofs.problem.Problem.slots.Goals as goal

pub loop-l-init : goal.loop-l-init
loop-l-init c = (first_start (seen c.args.self.now), λ k h. absurd (omega arith))
