use Rattle.std.proofs.Common.{ℕ, ◌^◌, ◌<◌, ◌≤◌, sum, ap, ◌∙◌, arith}
use Rattle.table.proofs.Sums.{sum_below}
use Rattle.cover.specs.View.{at}
use Rattle.cover.specs.PictureLemmas.{cap_small}
use Rattle.cover.proofs.Totals.{sum_first}
use Rattle.cover.proofs.drawn.Drawn.value.Goals as goal

pub total-requires : goal.total-requires
total-requires c =
    let low : (k : ℕ) → k < 64 → at c.args.flow.now k ≤ 2 ^ 40 = λ k h. omega (arith, c.requires.within k (omega arith), cap_small c.args.self.now k (omega arith)) in
    omega (arith, ap sum c.supplies.ensures, sum_first c.args.flow.now 64 (omega arith), sum_below 64 (2 ^ 40) (at c.args.flow.now) low)

pub returns : goal.returns
returns c = c.total.ensures ∙ ap sum c.supplies.ensures ∙ sum_first c.args.flow.now 64 (omega arith)
