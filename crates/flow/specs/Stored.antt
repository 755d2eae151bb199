-- To believe: what network a list of arcs stands for.

use Rattle.std.specs.Prelude.{◌≡◌, ℕ, ◌+◌, ◌-◌, ◌*◌, ◌<◌, cond, List, ◌==◌}
use Rattle.network.specs.Sums.{sum_over, when}
use Rattle.network.specs.Flow.{Net}
use Rattle.network.specs.Residual.{way}
use Rattle.flow.specs.Lists.{at}

-- the residual arc a enters the node at a of `ends`: the arc k goes from the node at 2 * k + 1 to the one at 2 * k
abbrev pub listed_net : ℕ → ℕ → ℕ → ℕ → List ℕ → List ℕ → Net
listed_net nodes arcs source sink ends caps = record { nodes = nodes; arcs = arcs; tail = λ k. at ends (2 * k + 1); head = λ k. at ends (2 * k); cap = at caps; source = source; sink = sink }

-- each residual arc enters a node
abbrev pub Joins : ℕ → ℕ → List ℕ → Type 0
Joins nodes arcs ends = (a : ℕ) → a < 2 * arcs → at ends a < nodes

-- a network with one arc more
abbrev pub with_arc : Net → ℕ → ℕ → ℕ → Net
with_arc N t h c = record {
  nodes = N.nodes;
  arcs = N.arcs + 1;
  source = N.source;
  sink = N.sink;
  tail = λ k. cond (k == N.arcs) t (N.tail k);
  head = λ k. cond (k == N.arcs) h (N.head k);
  cap = λ k. cond (k == N.arcs) c (N.cap k);
}

-- the node that the residual arc a leaves
abbrev pub origin : List ℕ → ℕ → ℕ
origin ends a = way a (at ends (a + 1)) (at ends (a - 1))

-- how many of the first m residual arcs leave v
unfoldable pub count : List ℕ → ℕ → ℕ → ℕ
count ends v m = sum_over m (λ b. when (v == origin ends b) 1)

-- The rows: the residual arcs that leave v, in their order, from the place start v on. So the arc b stands as many places on as arcs before
-- it leave the same node.
abbrev pub Degrees : ℕ → ℕ → List ℕ → List ℕ → Type 0
Degrees nodes m ends degree = (v : ℕ) → v < nodes → at degree v ≡ count ends v m

abbrev pub Starts : ℕ → ℕ → List ℕ → List ℕ → Type 0
Starts nodes m ends start = (v : ℕ) → v < nodes → at start v ≡ sum_over v (λ u. count ends u m)

abbrev pub Rows : ℕ → List ℕ → List ℕ → List ℕ → Type 0
Rows m ends start rows = (b : ℕ) → b < m → at rows (at start (origin ends b) + count ends (origin ends b) b) ≡ b
