-- To believe: nothing. What a depth-first search with a cursor at each node knows, in the contracts of private functions.

use Rattle.std.specs.Prelude.{◌≡◌, ℕ, ◌+◌, ◌*◌, ◌<◌, ◌≤◌, ◌≢◌, Option, Some, None}
use Rattle.network.specs.Flow.{Net, Flow}
use Rattle.network.specs.Residual.{to, room}
use Rattle.network.specs.Augment.{Onward, Trail, stop, Blocked}

-- marks that the search may go by: 1 at the source, and none past the number of nodes
pub record Marks (N : Net) (mark : ℕ → ℕ) : Type 0 where
  pub first : mark N.source ≡ 1
  pub low : (v : ℕ) → v < N.nodes → mark v ≤ N.nodes

-- the cursor of v has passed its last arc: v is given up
abbrev pub Spent : Net → (ℕ → ℕ) → (ℕ → ℕ) → ℕ → Type 0
Spent N deg cursor v = (v ≢ N.sink) × (deg v ≤ cursor v)

-- each arc before a cursor is dead: if it has room and goes a layer on, it leads to a node that is given up
pub record Cursors (N : Net) (deg : ℕ → ℕ) (inc : ℕ → ℕ → ℕ) (f mark cursor : ℕ → ℕ) : Type 0 where
  pub low : (v : ℕ) → v < N.nodes → cursor v ≤ deg v
  pub dead : (v i : ℕ) → v < N.nodes → i < cursor v → 0 < room N f (inc v i) → Onward N mark (inc v i) → Spent N deg cursor (to N (inc v i))

-- the first arc of v from i on that has room and goes a layer on is the one at r; deg v, where there is none
pub record First (N : Net) (deg : ℕ → ℕ) (inc : ℕ → ℕ → ℕ) (f mark : ℕ → ℕ) (v i r : ℕ) : Type 0 where
  pub low : i ≤ r
  pub high : r ≤ deg v
  pub passed : (j : ℕ) → i ≤ j → j < r → 0 < room N f (inc v j) → mark (to N (inc v j)) ≢ mark v + 1
  pub open_now : r < deg v → (0 < room N f (inc v r)) × (mark (to N (inc v r)) ≡ mark v + 1)

-- a search midway: d arcs with room lead from the source, each a layer on, by the nodes of the stack; each of them stands at the cursor of
-- the node that it leaves
pub record Walking (N : Net) (deg : ℕ → ℕ) (inc : ℕ → ℕ → ℕ) (f mark cursor path stack : ℕ → ℕ) (d : ℕ) : Type 0 where
  pub cursors : Cursors N deg inc f mark cursor
  pub trail : Trail N f mark path d
  pub nodes : (i : ℕ) → i ≤ d → stack i ≡ stop N path i
  pub stands : (i : ℕ) → i < d → (cursor (stack i) < deg (stack i)) × (inc (stack i) (cursor (stack i)) ≡ path i)
  pub deep : d < N.nodes

-- its end: d arcs lead to the sink; or there is no more way to it
abbrev pub Descended : Net → (ℕ → ℕ) → (ℕ → ℕ → ℕ) → (ℕ → ℕ) → (ℕ → ℕ) → (ℕ → ℕ) → (ℕ → ℕ) → (ℕ → ℕ) → Option ℕ → Type 0
Descended N deg inc f mark cursor path stack (Some d) = (0 < d) × Walking N deg inc f mark cursor path stack d × (stack d ≡ N.sink)
Descended N deg inc f mark cursor path stack None = Blocked N f mark

-- x is the least room along the first d arcs of a path, and i the first of them that has it
pub record Least (N : Net) (f path : ℕ → ℕ) (d x i : ℕ) : Type 0 where
  pub low : (j : ℕ) → j < d → x ≤ room N f (path j)
  pub before : (j : ℕ) → j < i → x < room N f (path j)
  pub inside : i < d
  pub met : room N f (path i) ≡ x

-- f' is f with a flow added that blocks what the layers of mark leave: room was lost only where an arc goes a layer on, and no such arcs
-- with room lead to the sink any more
pub record Filled (N : Net) (f f' mark : ℕ → ℕ) : Type 0 where
  pub flows : Flow N f'
  pub only : (b : ℕ) → b < 2 * N.arcs → room N f' b < room N f b → Onward N mark b
  pub blocks : Blocked N f' mark
