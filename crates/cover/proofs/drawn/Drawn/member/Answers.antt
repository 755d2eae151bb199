use Rattle.std.proofs.Common.{arith}
use Rattle.cover.specs.PictureLemmas.{count_below}
use Rattle.cover.proofs.drawn.Drawn.member.Goals as goal

pub overflow_add-result : goal.overflow_add-result
overflow_add-result c = omega (arith, count_below c.args.self.now c.args.t (omega arith))

pub bounds-self-t : goal.bounds-self-t
bounds-self-t c = omega (arith, count_below c.args.self.now c.args.t (omega arith))
