use Rattle.std.proofs.Common.{arith}
use Rattle.cover.specs.PictureLemmas.{count_below}
use Rattle.cover.proofs.drawn.Drawn.degree.Goals as goal

pub overflow_add-result-in-Cell : goal.overflow_add-result-in-Cell
overflow_add-result-in-Cell c = omega (arith, count_below c.args.self.now c.in-Cell.pair.lot c.in-Cell.pair.low.0)
