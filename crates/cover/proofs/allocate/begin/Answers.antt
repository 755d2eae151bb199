use Rattle.std.proofs.Common.{rules}
use Rattle.table.proofs.Outcome.{begin_flow}
use Rattle.cover.specs.View.{at, pledge}
use Rattle.cover.specs.Picture.{pictured}
use Rattle.cover.proofs.allocate.begin.Goals as goal

pub invariant_of-result : goal.invariant_of-result
invariant_of-result c =
    let e = c.start-first.ensures in
    let f = begin_flow (pictured c.args.drawn.now) (pledge c.args.table.now) (at c.start-first.result) e.0 e.1 in
    record { arcs = search rules; within = f.within; conserved = λ v h. f.conserved v h.0 h.1 h.2 }
