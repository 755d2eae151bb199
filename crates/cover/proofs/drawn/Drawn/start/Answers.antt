use Rattle.std.proofs.Common.{false}
use Rattle.std.proofs.lemmas.Bool.{false≢true}
use Rattle.cover.specs.Lists.{zeros_at}
use Rattle.cover.proofs.drawn.Drawn.start.Goals as goal

pub returns-in-None : goal.returns-in-None
returns-in-None c = (false, record { test = (λ y. absurd (false≢true y), λ w. absurd (c.in-None.ensures w)); loaded = λ y. absurd (false≢true y); blank = λ _ k h. zeros_at 2128 k })
