use Rattle.std.proofs.Common.{drop, ◌∙◌}
use Rattle.std.proofs.lemmas.List.{get_or-drop, get_or-take}
use Rattle.cover.proofs.load.offers.Goals as goal

pub returns-clause-each : goal.returns-clause-each
returns-clause-each c = λ k h. get_or-take 1024 (drop 64 c.args.flow.now) k 0 h ∙ get_or-drop 64 c.args.flow.now k 0
