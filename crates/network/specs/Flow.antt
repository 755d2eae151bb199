-- To believe: networks, flows, cuts and their measures, as Ford and Fulkerson have them.
-- Nodes and arcs are numbers; a flow is a number for each arc; a set of nodes is a test.

use Rattle.std.specs.Prelude.{◌≡◌, ℕ, ◌+◌, ◌-◌, ◌<◌, ◌≤◌, Bool, true, false, not, ◌&&◌, ◌≢◌, nat_eq}
use Rattle.network.specs.Sums.{sum_over, when}

-- a network: the nodes are the numbers below `nodes`, the arcs those below `arcs`; the arc k goes from tail k to head k
pub record Net : Type 0 where
  pub nodes : ℕ
  pub arcs : ℕ
  pub tail : ℕ → ℕ
  pub head : ℕ → ℕ
  pub cap : ℕ → ℕ
  pub source : ℕ
  pub sink : ℕ

-- the arcs join nodes, and source and sink are two nodes
pub record Sound (N : Net) : Type 0 where
  pub tails : (k : ℕ) → k < N.arcs → N.tail k < N.nodes
  pub heads : (k : ℕ) → k < N.arcs → N.head k < N.nodes
  pub source_in : N.source < N.nodes
  pub sink_in : N.sink < N.nodes
  pub apart : N.source ≡ N.sink → ⊥

-- what f sends along the arcs below m whose end e is in S
unfoldable pub over : ℕ → (ℕ → ℕ) → (ℕ → Bool) → (ℕ → ℕ) → ℕ
over m e S f = sum_over m (λ k. when (S (e k)) (f k))

-- what f sends along the arcs that leave a node of S, that enter one, and that lead out of S
abbrev pub out_of : Net → (ℕ → Bool) → (ℕ → ℕ) → ℕ
out_of N S f = over N.arcs N.tail S f

abbrev pub into : Net → (ℕ → Bool) → (ℕ → ℕ) → ℕ
into N S f = over N.arcs N.head S f

unfoldable pub across : Net → (ℕ → Bool) → (ℕ → ℕ) → ℕ
across N S f = sum_over N.arcs (λ k. when (S (N.tail k) && not (S (N.head k))) (f k))

-- a flow: within the capacities, and conserved at each node but source and sink
pub record Flow (N : Net) (f : ℕ → ℕ) : Type 0 where
  pub within : (k : ℕ) → k < N.arcs → f k ≤ N.cap k
  pub conserved : (v : ℕ) → v < N.nodes → (v ≢ N.source) → (v ≢ N.sink) → into N (nat_eq v) f ≡ out_of N (nat_eq v) f

-- the value of a flow: what leaves the source, less what enters it
abbrev pub value : Net → (ℕ → ℕ) → ℕ
value N f = out_of N (nat_eq N.source) f - into N (nat_eq N.source) f

-- The value of f is at most that of g, or below it. Where more enters the source than leaves it, the value is below zero, which
-- no ℕ is; so values are compared with what enters moved to the other side. (`value` is then 0, and loses this.)
abbrev pub AtMost : Net → (ℕ → ℕ) → (ℕ → ℕ) → Type 0
AtMost N f g = out_of N (nat_eq N.source) f + into N (nat_eq N.source) g ≤ out_of N (nat_eq N.source) g + into N (nat_eq N.source) f

abbrev pub Less : Net → (ℕ → ℕ) → (ℕ → ℕ) → Type 0
Less N f g = out_of N (nat_eq N.source) f + into N (nat_eq N.source) g < out_of N (nat_eq N.source) g + into N (nat_eq N.source) f

-- a cut: a set of nodes with the source and without the sink
pub record Cut (N : Net) (S : ℕ → Bool) : Type 0 where
  pub has_source : S N.source ≡ true
  pub lacks_sink : S N.sink ≡ false

-- what the arcs that lead out of the cut can carry
abbrev pub capacity : Net → (ℕ → Bool) → ℕ
capacity N S = across N S N.cap

-- a maximum flow: no flow has a greater value
abbrev pub Maximum : Net → (ℕ → ℕ) → Type 0
Maximum N f = Flow N f × ((g : ℕ → ℕ) → Flow N g → AtMost N g f)

-- a minimum cut: no cut has a smaller capacity
abbrev pub Minimum : Net → (ℕ → Bool) → Type 0
Minimum N S = Cut N S × ((R : ℕ → Bool) → Cut N R → capacity N S ≤ capacity N R)
