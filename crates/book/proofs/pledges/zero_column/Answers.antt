use Rattle.std.proofs.Common.{◌+◌, ◌*◌, set, sym, ap, ◌∙◌}
use Rattle.book.proofs.Walks.{zeroed_start, zeroed_more}
use Rattle.book.proofs.pledges.zero_column.Goals as goal

pub loop-lot-init : goal.loop-lot-init
loop-lot-init c = sym (zeroed_start c.args.pledges.now c.args.exposure.at)

pub loop-lot-preserved : goal.loop-lot-preserved
loop-lot-preserved c = ap (λ t. set t (c.loop-lot.lot * 16 + c.args.exposure.at) 0) c.loop-lot.invariant ∙ sym (zeroed_more c.args.pledges.now c.args.exposure.at c.loop-lot.lot)
