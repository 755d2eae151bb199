use Rattle.std.proofs.Common.{ltb, ◌∙◌, rules, tests}
use Rattle.std.proofs.lemmas.Iterator.{YieldsList-from_slice}
use Rattle.std.proofs.lemmas.Iterator.Search.{any_from_yields_List}
use Rattle.book.proofs.Walks.{row_pledged}
use Rattle.book.proofs.pledges.is_pledged.Goals as goal

pub returns : goal.returns
returns c =
    let row = c.row.result.now in
    any_from_yields_List (ltb 0) _ _ _ c.any.ensures.ran (YieldsList-from_slice row (cc)) (λ x b q k. search (rules, tests))
    ∙ row_pledged row c.args.pledges.now c.args.lot.at c.row.ensures.all c.row.ensures.each
