use Rattle.std.proofs.Common.{arith}
use Rattle.table.proofs.Slots.{slot_low}
use Rattle.cover.specs.Seen.{seen}
use Rattle.cover.specs.Lists.{zeros_at}
use Rattle.cover.proofs.problem.Problem.draw.Goals as goal

pub rows-requires : goal.rows-requires
rows-requires c = (λ l h. omega (arith, c.slots-slots.ensures l h, slot_low (seen c.args.self.now) l h), λ t h. zeros_at 64 t)
