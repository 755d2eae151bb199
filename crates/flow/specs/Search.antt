-- To believe: nothing. What a breadth-first search knows, midway and at its end, in the contracts of private functions.

use Rattle.std.specs.Prelude.{◌≡◌, ℕ, ◌+◌, ◌-◌, ◌*◌, ◌<◌, ◌≤◌, nat_lt}
use Rattle.network.specs.Sums.{sum_over, when}
use Rattle.network.specs.Flow.{Net}
use Rattle.network.specs.Residual.{from, to, room, Walk, Distances}

-- the residual arc a, if it has room, leads to a node that is marked, one layer on from m at most
abbrev pub Settled : Net → (ℕ → ℕ) → (ℕ → ℕ) → ℕ → ℕ → Type 0
Settled N f mark m a = 0 < room N f a → (0 < mark (to N a)) × (mark (to N a) ≤ m + 1)

-- midway: count nodes were queued, by their layers, and the first done of them have their arcs settled
pub record Bfs (N : Net) (f mark queue : ℕ → ℕ) (done count : ℕ) : Type 0 where
  pub first : mark N.source ≡ 1
  pub tally : sum_over N.nodes (λ v. when (nat_lt 0 (mark v)) 1) ≡ count
  pub low : (v : ℕ) → v < N.nodes → mark v ≤ count
  pub inside : (i : ℕ) → i < count → queue i < N.nodes
  pub marked : (i : ℕ) → i < count → 0 < mark (queue i)
  pub found : (v : ℕ) → v < N.nodes → 0 < mark v → (i : ℕ) × (i < count) × (queue i ≡ v)
  pub sorted : (i j : ℕ) → i ≤ j → j < count → mark (queue i) ≤ mark (queue j)
  pub near : (i : ℕ) → done < count → i < count → mark (queue i) ≤ mark (queue done) + 1
  pub lone : (v : ℕ) → v < N.nodes → mark v ≡ 1 → v ≡ N.source
  pub backward : (v : ℕ) → v < N.nodes → 1 < mark v → (a : ℕ) × (a < 2 * N.arcs) × (0 < room N f a) × (to N a ≡ v) × (mark (from N a) + 1 ≡ mark v)
  pub past : (i : ℕ) → i < done → (a : ℕ) → a < 2 * N.arcs → from N a ≡ queue i → Settled N f mark (mark (queue i)) a
  pub bound : done ≤ count

-- a search that came to the sink: a mark that is set is 1 more than the fewest arcs of a walk, and a node that has none is no nearer than
-- the sink
pub record Nearer (N : Net) (f mark : ℕ → ℕ) : Type 0 where
  pub least : (v d : ℕ) → Walk N f v d → 0 < mark v → mark v ≤ d + 1
  pub reached : (v : ℕ) → v < N.nodes → 0 < mark v → Walk N f v (mark v - 1)
  pub whole : (v d : ℕ) → Walk N f v d → d + 1 < mark N.sink → 0 < mark v

-- its end: if the sink was not reached, the marks are the layers; if it was, they are the layers as far as the sink
pub record Searched (N : Net) (f mark : ℕ → ℕ) : Type 0 where
  pub first : mark N.source ≡ 1
  pub low : (v : ℕ) → v < N.nodes → mark v ≤ N.nodes
  pub out : mark N.sink ≡ 0 → Distances N f mark
  pub near : 0 < mark N.sink → Nearer N f mark
