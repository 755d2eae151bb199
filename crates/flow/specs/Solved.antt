-- To believe: what the solver leaves behind.

use Prim.{Unit}
use Rattle.std.specs.Prelude.{◌≡◌, ℕ, ◌<◌, Bool, cond, ◌&&◌, List, length, Some, None, Ok, Err, Option, Result, ◌==◌, nat_le, nat_lt}
use Rattle.network.specs.Flow.{Net, value, capacity, Maximum, Minimum}
use Rattle.network.specs.Residual.{Distances}
use Rattle.network.specs.Round.{Rounds}
use Rattle.flow.specs.declared.rounds.Refusal.{Refusal}
use Rattle.flow.specs.declared.rounds.Refusal.TheVariants.{FlowLength, MemoryShort}
use Rattle.flow.specs.declared.memory.Memory.{Memory}
use Rattle.flow.specs.Lists.{at}
use Rattle.flow.specs.Memory.{Fits}

-- the nodes with a mark
abbrev pub marked : (ℕ → ℕ) → ℕ → Bool
marked mark v = nat_lt 0 (mark v)

-- from the flow f, by just r rounds, to the maximum flow f'; the nodes that are reached still are those with a mark, they are a minimum
-- cut, and its capacity is the value
pub record Solved (N : Net) (f f' mark : ℕ → ℕ) (r : ℕ) : Type 0 where
  pub rounds : Rounds N r f f'
  pub few : r < N.nodes
  pub maximum : Maximum N f'
  pub reached : Distances N f' mark
  pub minimum : Minimum N (marked mark)
  pub equal : value N f' ≡ capacity N (marked mark)

-- why the solver refuses to run, the first that applies: the flow has not one place for each arc; some of the memory has fewer places than
-- there are nodes
abbrev pub refusal : Net → ℕ → Memory → Option Refusal
refusal N flow m =
    cond (flow == N.arcs) (cond (nat_le N.nodes (length m.mark.now) && (nat_le N.nodes (length m.queue.now) && (nat_le N.nodes (length m.cursor.now) && nat_le N.nodes (length m.path.now)))) None (Some MemoryShort)) (Some FlowLength)

abbrev pub Checked : Net → ℕ → Memory → Result Unit Refusal → Type 0
Checked N flow m (Ok _) = (refusal N flow m ≡ None) × (flow ≡ N.arcs) × Fits N m
Checked N flow m (Err e) = refusal N flow m ≡ Some e

-- what comes of a call that begins with the flow f: it runs, and solves the network; or it is refused, and nothing changes
abbrev pub Outcome : Net → (ℕ → ℕ) → List ℕ → Memory → List ℕ → Memory → Result ℕ Refusal → Type 0
Outcome N f flow m flow' m' (Ok r) = (refusal N (length flow) m ≡ None) × Solved N f (at flow') (at m'.mark.now) r
Outcome N f flow m flow' m' (Err e) = (refusal N (length flow) m ≡ Some e) × (flow' ≡ flow) × (m' ≡ m)
