-- To believe: nothing that a call promises. How a table is sent along the arcs, pledge by pledge.

use Rattle.std.specs.Prelude.{◌≡◌, ℕ, ◌+◌, ◌/◌, ◌%◌, ◌<◌, ◌≤◌, List, Option, Some, None, ◌≢◌, nat_eq}
use Rattle.network.specs.Sums.{sum_over, Agree}
use Rattle.network.specs.Flow.{into, out_of}
use Rattle.table.specs.Table.{Situation, Table, Lawful}
use Rattle.table.specs.Drawn.{place, arc, slot, cap_of, net_of, flow_of}
use Rattle.table.specs.Drawn.Arc.{supply, offer, bound, demand}
use Rattle.table.specs.Paths.{share}
use Rattle.cover.specs.declared.load.Pledge.{Pledge}
use Rattle.cover.specs.View.{at}

-- no arc carries more than it can
abbrev pub Within : Situation → List ℕ → Type 0
Within s flow = (k : ℕ) → k < 2128 → at flow k ≤ cap_of s (arc k)

-- and it is a flow if each node but source and sink passes on what it gets
abbrev pub Conserved : Situation → List ℕ → Type 0
Conserved s flow = (v : ℕ) → (v < 1106) × (v ≢ 0) × (v ≢ 1105) → into (net_of s) (nat_eq v) (at flow) ≡ out_of (net_of s) (nat_eq v) (at flow)

-- what a pledge sends along the arc k
abbrev pub along : Situation → Pledge → ℕ → ℕ
along s p k = share s p.pair.lot p.pair.exposure p.amount k

-- each arc on the path of a pledge can carry its amount more
pub record Bears (s : Situation) (p : Pledge) (flow : List ℕ) : Type 0 where
  pub supplied : at flow (place (supply p.pair.lot)) + p.amount ≤ cap_of s (arc (place (supply p.pair.lot)))
  pub offered : at flow (place (offer p.pair.lot p.pair.exposure)) + p.amount ≤ cap_of s (arc (place (offer p.pair.lot p.pair.exposure)))
  pub bounded : at flow (place (bound (slot s p.pair.lot) p.pair.exposure)) + p.amount ≤ cap_of s (arc (place (bound (slot s p.pair.lot) p.pair.exposure)))
  pub demanded : at flow (place (demand p.pair.exposure)) + p.amount ≤ cap_of s (arc (place (demand p.pair.exposure)))

-- a pledge was added along its path
abbrev pub Adds : Situation → Pledge → List ℕ → List ℕ → Type 0
Adds s p flow flow' = (k : ℕ) → at flow' k ≡ at flow k + along s p k

-- with the pledge some arc would carry more than it can
abbrev pub TooMuch : Situation → Pledge → List ℕ → Type 0
TooMuch s p flow = (k : ℕ) × (k < 2128) × (cap_of s (arc k) < at flow k + along s p k)

-- what the pledges at the first n places of a table send along the arcs
abbrev pub front : Situation → List ℕ → ℕ → ℕ → ℕ
front s table n k = sum_over n (λ i. share s (i / 16) (i % 16) (at table i) k)

-- the flow of a table, which there is exactly if the table is lawful
abbrev pub FlowOf : Situation → Table → Option (List ℕ) → Type 0
FlowOf s p None = Lawful s p → ⊥
FlowOf s p (Some flow) = Lawful s p × Agree 2128 (at flow) (flow_of s p)
