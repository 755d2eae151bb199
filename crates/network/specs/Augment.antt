-- To believe: nothing. Sending more along one residual arc, and along the arcs of a path one after the other: what a flow and its rooms are
-- then. No law speaks of this; proofs and private contracts do.

use Rattle.std.specs.Prelude.{◌≡◌, ℕ, zero, suc, ◌+◌, ◌*◌, ◌/◌, ◌<◌, ◌≤◌, ◌==◌, ◌≢◌, nat_eq}
use Rattle.network.specs.Sums.{when}
use Rattle.network.specs.Flow.{Net, out_of, into}
use Rattle.network.specs.Residual.{from, to, room}

-- The residual arc a goes one layer on from a node that is reached. Unlike a layered arc of a flow it need have no room, so that
-- this can be said of an arc after it was filled.
abbrev pub Onward : Net → (ℕ → ℕ) → ℕ → Type 0
Onward N mark a = (0 < mark (from N a)) × (mark (to N a) ≡ mark (from N a) + 1)

-- f' is f with x more sent along the residual arc a
pub record Pushed (N : Net) (f f' : ℕ → ℕ) (a x : ℕ) : Type 0 where
  pub rest : (b : ℕ) → (b / 2 ≢ a / 2) → room N f' b ≡ room N f b
  pub fell : room N f' a + x ≡ room N f a
  pub rose : (b : ℕ) → b / 2 ≡ a / 2 → (b ≢ a) → room N f b ≤ room N f' b
  pub within : ((k : ℕ) → k < N.arcs → f k ≤ N.cap k) → (k : ℕ) → k < N.arcs → f' k ≤ N.cap k
  pub balance : (v : ℕ) → into N (nat_eq v) f' + out_of N (nat_eq v) f + when (v == from N a) x ≡ out_of N (nat_eq v) f' + into N (nat_eq v) f + when (v == to N a) x

-- where the first i arcs of a path lead
abbrev pub stop : Net → (ℕ → ℕ) → ℕ → ℕ
stop N path zero = N.source
stop N path (suc i) = to N (path i)

-- d arcs with room, each one layer on, one after the other from the source
pub record Trail (N : Net) (f mark path : ℕ → ℕ) (d : ℕ) : Type 0 where
  pub known : (i : ℕ) → i < d → path i < 2 * N.arcs
  pub roomy : (i : ℕ) → i < d → 0 < room N f (path i)
  pub onward : (i : ℕ) → i < d → Onward N mark (path i)
  pub joined : (i : ℕ) → i < d → from N (path i) ≡ stop N path i

-- f is f₀ with x more sent from the source to u, along arcs that go one layer on
pub record Sent (N : Net) (f₀ f mark : ℕ → ℕ) (x u : ℕ) : Type 0 where
  pub within : (k : ℕ) → k < N.arcs → f k ≤ N.cap k
  pub balance : (v : ℕ) → into N (nat_eq v) f + out_of N (nat_eq v) f₀ + when (v == N.source) x ≡ out_of N (nat_eq v) f + into N (nat_eq v) f₀ + when (v == u) x
  pub falls : (b : ℕ) → b < 2 * N.arcs → Onward N mark b → room N f b ≤ room N f₀ b
  pub only : (b : ℕ) → b < 2 * N.arcs → room N f b < room N f₀ b → Onward N mark b

-- arcs with room, each one layer on, lead from the node to the sink
pub data Leads (N : Net) (f mark : ℕ → ℕ) : ℕ → Type 0 where
  here : Leads N f mark N.sink
  on : (a : ℕ) → a < 2 * N.arcs → 0 < room N f a → Onward N mark a → Leads N f mark (to N a) → Leads N f mark (from N a)

-- none lead there from the source: what is left of the layers is blocked
abbrev pub Blocked : Net → (ℕ → ℕ) → (ℕ → ℕ) → Type 0
Blocked N f mark = Leads N f mark N.source → ⊥
