-- To believe: what a round is. The layers of the flow reach the sink, and a blocking flow of the layered network is added: what
-- changed lies on layered arcs alone, and every layered path from source to sink has a full arc then.

use Rattle.std.specs.Prelude.{◌≡◌, ℕ, suc, ◌+◌, ◌*◌, ◌<◌, List, [], ◌∷◌, length, slice_index}
use Rattle.network.specs.Sums.{Agree}
use Rattle.network.specs.Flow.{Net, Flow}
use Rattle.network.specs.Residual.{ahead, back, from, to, room, Distances}

-- a layered arc of the flow f: a residual arc with room, from a node that is reached, one layer on
pub record Layered (N : Net) (f mark : ℕ → ℕ) (a : ℕ) : Type 0 where
  pub known : a < 2 * N.arcs
  pub roomy : 0 < room N f a
  pub reached : 0 < mark (from N a)
  pub onward : mark (to N a) ≡ mark (from N a) + 1

-- a layered path from a node to the sink, as the list of its arcs
pub data Path (N : Net) (f mark : ℕ → ℕ) : ℕ → List ℕ → Type 0 where
  end : Path N f mark N.sink []
  next : {p : List ℕ} (a : ℕ) → Layered N f mark a → Path N f mark (to N a) p → Path N f mark (from N a) (a ∷ p)

-- some arc of the path is full under the flow f
abbrev pub HasFull : Net → (ℕ → ℕ) → List ℕ → Type 0
HasFull N f p = (i : ℕ) × (i < length p) × (room N f (slice_index p i) ≡ 0)

-- a round from the flow f to the flow f'
pub record Round (N : Net) (f f' : ℕ → ℕ) : Type 0 where
  -- the layers of f reach the sink
  pub mark : ℕ → ℕ
  pub layers : Distances N f mark
  pub reaches : 0 < mark N.sink
  pub flows : Flow N f'
  -- where an arc carries more than before, it is layered; where it carries less, its way back is
  pub risen : (k : ℕ) → k < N.arcs → f k < f' k → Layered N f mark (ahead k)
  pub fallen : (k : ℕ) → k < N.arcs → f' k < f k → Layered N f mark (back k)
  -- every layered path from source to sink has got a full arc
  pub blocks : (p : List ℕ) → Path N f mark N.source p → HasFull N f' p

-- a chain of so many rounds; none of them, and each arc carries what it did
pub data Rounds (N : Net) : ℕ → (ℕ → ℕ) → (ℕ → ℕ) → Type 0 where
  none : {f g : ℕ → ℕ} → Agree N.arcs f g → Rounds N 0 f g
  more : {k : ℕ} {f g h : ℕ → ℕ} → Rounds N k f g → Round N g h → Rounds N (suc k) f h
