use Rattle.std.proofs.Common.{◌≡◌, ℕ}
use Rattle.cover.specs.View.{at}
use Rattle.cover.specs.Picture.{pictured}
use Rattle.cover.specs.Loading.{front}
use Rattle.cover.proofs.drawn.Drawn.flow_of.Given as goal

abbrev pub invariant-loop-k : goal.invariant-loop-k
invariant-loop-k l = (l.loading.drawn.now ≡ l.fn.self) × ((k : ℕ) → at l.loading.flow k ≡ front (pictured l.fn.self) l.table l.k k)
