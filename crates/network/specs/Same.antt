-- To believe: when two networks are one and the same as far as nodes and arcs go.

use Rattle.std.specs.Prelude.{◌≡◌}
use Rattle.network.specs.Sums.{Agree}
use Rattle.network.specs.Flow.{Net}

-- as many nodes and arcs, the same ends, and the same tail, head and capacity for each arc; what the functions say of numbers
-- that are no arcs does not count
pub record Same (N M : Net) : Type 0 where
  pub nodes : N.nodes ≡ M.nodes
  pub arcs : N.arcs ≡ M.arcs
  pub source : N.source ≡ M.source
  pub sink : N.sink ≡ M.sink
  pub tails : Agree N.arcs N.tail M.tail
  pub heads : Agree N.arcs N.head M.head
  pub caps : Agree N.arcs N.cap M.cap
