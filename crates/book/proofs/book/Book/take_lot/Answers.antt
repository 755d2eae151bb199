use Rattle.std.proofs.Common.{◌≡◌, false, ltb, None, ap, ◌∙◌, arith, length-set}
use Rattle.network.specs.Sums.{sum_over}
use Rattle.calls.specs.State.{table}
use Rattle.calls.specs.Situation.{worth_of}
use Rattle.book.proofs.Pledged.{low_set, lot_emptied}
use Rattle.book.proofs.book.Book.take_lot.Goals as goal

pub invariant_of-self : goal.invariant_of-self
invariant_of-self c =
    let b = c.args.self.now in
    let p = c.args.place.at in
    let free : ltb 0 (sum_over 16 (λ e. table b.standing p e)) ≡ false = c.requires.free in
    let free_working : ltb 0 (sum_over 16 (λ e. table b.working p e)) ≡ false = ap (λ t. ltb 0 (sum_over 16 (λ e. table t p e))) (b.idle c.requires.idle) ∙ free in
    record {
      places = (length-set b.lots p None ∙ b.places.0, b.places.1);
      tables = b.tables;
      grounded = lot_emptied b.lots b.exposures b.standing p free b.grounded;
      grounded_working = lot_emptied b.lots b.exposures b.working p free_working b.grounded_working;
      low = b.low;
      low_working = b.low_working;
      worths = low_set worth_of b.lots p None 1099511627776 (omega arith) b.worths;
      amounts = b.amounts;
      idle = b.idle;
    }
