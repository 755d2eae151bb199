use Rattle.std.proofs.Common.{arith}
use Rattle.book.proofs.Few.{few_changes}
use Rattle.book.proofs.book.Book.settle.Goals as goal

pub write_changes-count-requires : goal.write_changes-count-requires
write_changes-count-requires c =
    let b = c.args.self.now in
    let few = few_changes b.lots b.exposures b.standing b.working b.grounded b.grounded_working in
    let room = rw (c.held_lots.ensures.count, c.open_exposures.ensures.count) at c.if-list-held_lots.false in
    record { low = (b.low, b.low_working); room = omega arith }
