-- To believe: the residual arcs of a flow (unfilled forward, used backward), the walks along them from the source, and the
-- layers, by the fewest residual arcs from the source.

use Rattle.std.specs.Prelude.{◌≡◌, ℕ, suc, ◌+◌, ◌-◌, ◌*◌, ◌/◌, ◌%◌, ◌<◌, ◌≤◌, cond, ◌==◌}
use Rattle.network.specs.Flow.{Net}

-- Each arc k has two residual arcs: 2 * k along it, and 2 * k + 1 back along it. So they are the numbers below 2 * arcs.
abbrev pub ahead : ℕ → ℕ
ahead k = 2 * k

abbrev pub back : ℕ → ℕ
back k = 2 * k + 1

-- x where a goes along its arc, y where it goes back
abbrev pub way : ℕ → ℕ → ℕ → ℕ
way a x y = cond (a % 2 == 0) x y

-- the node that the residual arc a leaves, and the one that it enters
unfoldable pub from : Net → ℕ → ℕ
from N a = way a (N.tail (a / 2)) (N.head (a / 2))

unfoldable pub to : Net → ℕ → ℕ
to N a = way a (N.head (a / 2)) (N.tail (a / 2))

-- its room, what can still be sent along it: along an arc, what its capacity leaves; back along it, what it carries
unfoldable pub room : Net → (ℕ → ℕ) → ℕ → ℕ
room N f a = way a (N.cap (a / 2) - f (a / 2)) (f (a / 2))

-- a walk along residual arcs with room, from the source to a node, by so many arcs
pub data Walk (N : Net) (f : ℕ → ℕ) : ℕ → ℕ → Type 0 where
  stay : Walk N f N.source 0
  step : {d : ℕ} (a : ℕ) → Walk N f (from N a) d → a < 2 * N.arcs → 0 < room N f a → Walk N f (to N a) (suc d)

-- the layers by walks: mark v is 0 where no walk comes to v, and else 1 more than the fewest arcs of one
pub record Distances (N : Net) (f : ℕ → ℕ) (mark : ℕ → ℕ) : Type 0 where
  pub least : (v d : ℕ) → Walk N f v d → (0 < mark v) × (mark v ≤ d + 1)
  pub reached : (v : ℕ) → v < N.nodes → 0 < mark v → Walk N f v (mark v - 1)

-- the layers by arcs: the source alone is in the first; an arc with room leads one layer on at most; and each node of a later
-- layer is entered from the layer before it
pub record Layers (N : Net) (f : ℕ → ℕ) (mark : ℕ → ℕ) : Type 0 where
  pub first : mark N.source ≡ 1
  pub onward : (a : ℕ) → a < 2 * N.arcs → 0 < room N f a → 0 < mark (from N a) → (0 < mark (to N a)) × (mark (to N a) ≤ mark (from N a) + 1)
  pub backward : (v : ℕ) → v < N.nodes → 1 < mark v → (a : ℕ) × (a < 2 * N.arcs) × (0 < room N f a) × (to N a ≡ v) × (mark (from N a) + 1 ≡ mark v)
  pub lone : (v : ℕ) → v < N.nodes → mark v ≡ 1 → v ≡ N.source

-- the residual arcs that leave each node v, in a list: inc v 0, .. inc v (deg v - 1). It may name an arc more than once.
pub record Listed (N : Net) (deg : ℕ → ℕ) (inc : ℕ → ℕ → ℕ) : Type 0 where
  pub known : (v i : ℕ) → v < N.nodes → i < deg v → inc v i < 2 * N.arcs
  pub leaves : (v i : ℕ) → v < N.nodes → i < deg v → from N (inc v i) ≡ v
  pub whole : (a : ℕ) → a < 2 * N.arcs → (i : ℕ) × (i < deg (from N a)) × (inc (from N a) i ≡ a)
