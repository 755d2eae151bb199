-- To believe: nothing; these are the theorems, over the definitions of the other files.

use Rattle.std.specs.Prelude.{◌≡◌, ℕ, ◌<◌, ◌≤◌, Bool, true, nat_lt}
use Rattle.network.specs.Sums.{sum_over, when, Agree}
use Rattle.network.specs.Flow.{Net, Sound, Flow, value, Less, Cut, capacity, Maximum, Minimum}
use Rattle.network.specs.Residual.{Walk, Distances, Layers}
use Rattle.network.specs.Round.{Round, Rounds}
use Rattle.network.specs.Same.{Same}

-- no flow's value passes any cut's capacity
abbrev pub WeakDuality : Type 0
WeakDuality = (N : Net) (f : ℕ → ℕ) (S : ℕ → Bool) → Sound N → Flow N f → Cut N S → value N f ≤ capacity N S

-- a flow is maximum exactly if no walk along residual arcs comes to the sink
abbrev pub MaximumExactly : Type 0
MaximumExactly = (N : Net) (f : ℕ → ℕ) → Sound N → Flow N f
    → (((d : ℕ) → Walk N f N.sink d → ⊥) → Maximum N f)
    × (Maximum N f → (d : ℕ) → Walk N f N.sink d → ⊥)

-- layers by arcs are layers by walks
abbrev pub LayersAreDistances : Type 0
LayersAreDistances = (N : Net) (f mark : ℕ → ℕ) → Sound N → Layers N f mark → Distances N f mark

-- each flow has layers, and no more of them than nodes
abbrev pub LayersExist : Type 0
LayersExist = (N : Net) (f : ℕ → ℕ) → Sound N → (mark : ℕ → ℕ) × Distances N f mark × ((v : ℕ) → v < N.nodes → mark v ≤ N.nodes)

-- where the sink is not reached, the flow is maximum, the nodes that are reached are a minimum cut, and its capacity is the value
abbrev pub MaxFlowMinCut : Type 0
MaxFlowMinCut = (N : Net) (f mark : ℕ → ℕ) → Sound N → Flow N f → Distances N f mark → mark N.sink ≡ 0
    → Maximum N f × Minimum N (λ v. nat_lt 0 (mark v)) × (value N f ≡ capacity N (λ v. nat_lt 0 (mark v)))

-- a round makes the value greater
abbrev pub RoundGains : Type 0
RoundGains = (N : Net) (f f' : ℕ → ℕ) → Sound N → Flow N f → Round N f f' → Less N f f'

-- a round takes the sink strictly farther from the source
abbrev pub RoundTakesSinkFarther : Type 0
RoundTakesSinkFarther = (N : Net) (f f' mark' : ℕ → ℕ) → Sound N → Flow N f → (r : Round N f f') → Distances N f' mark' → 0 < mark' N.sink
    → r.mark N.sink < mark' N.sink

-- so a chain has fewer rounds than there are nodes; and fewer than any set D of nodes has that no walk of any flow leaves
abbrev pub RoundsAreFew : Type 0
RoundsAreFew = (N : Net) (k : ℕ) (f g : ℕ → ℕ) → Sound N → Flow N f → Rounds N k f g
    → (k < N.nodes)
    × ((D : ℕ → Bool) → ((h : ℕ → ℕ) (v d : ℕ) → Flow N h → Walk N h v d → D v ≡ true) → k < sum_over N.nodes (λ v. when (D v) 1))

-- networks that are the same on their arcs have the same flows, maximum flows, rounds and chains of rounds, and the flows count
-- by what they send along the arcs
abbrev pub SameNetworks : Type 0
SameNetworks = (N M : Net) (f g : ℕ → ℕ) → Same N M → Agree N.arcs f g
    → (Flow N f → Flow M g)
    × (value N f ≡ value M g)
    × (Maximum N f → Maximum M g)
    × ((f' g' : ℕ → ℕ) → Agree N.arcs f' g' → Round N f f' → Round M g g')
    × ((k : ℕ) (f' g' : ℕ → ℕ) → Agree N.arcs f' g' → Rounds N k f f' → Rounds M k g g')
