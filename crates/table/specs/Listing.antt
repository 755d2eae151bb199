-- To believe: nothing that a promise rests on but in which order the arcs of a node are looked at.
-- The residual arcs that leave each node of the drawn network, in a list. At an exposure and at a cell the arc onward comes first,
-- so that a walk from the source comes to it at once.

use Rattle.std.specs.Prelude.{◌≡◌, ℕ, ◌+◌, ◌-◌, ◌<◌, cond, ◌==◌, nat_lt}
use Rattle.network.specs.Residual.{ahead, back}
use Rattle.table.specs.Table.{Situation}
use Rattle.table.specs.Drawn.{Node, place, node, slot}
use Rattle.table.specs.Drawn.Node.{source, lot, cell, exposure, sink}
use Rattle.table.specs.Drawn.Arc.{supply, offer, bound, demand}

-- count t lots have the slot t: member t 0, .. member t (count t - 1)
pub record Members (s : Situation) (count : ℕ → ℕ) (member : ℕ → ℕ → ℕ) : Type 0 where
  pub few : (t : ℕ) → t < 64 → count t < 65
  pub theirs : (t i : ℕ) → t < 64 → i < count t → (member t i < 64) × (slot s (member t i) ≡ t)
  pub all : (l : ℕ) → l < 64 → (i : ℕ) × (i < count (slot s l)) × (member (slot s l) i ≡ l)

abbrev pub deg_of_node : (ℕ → ℕ) → Node → ℕ
deg_of_node count source = 64
deg_of_node count (lot l) = 17
deg_of_node count (cell t e) = count t + 1
deg_of_node count (exposure e) = 65
deg_of_node count sink = 16

abbrev pub inc_of_node : (ℕ → ℕ → ℕ) → Node → ℕ → ℕ
inc_of_node member source i = ahead (place (supply i))
inc_of_node member (lot l) i = cond (nat_lt i 16) (ahead (place (offer l i))) (back (place (supply l)))
inc_of_node member (cell t e) i = cond (i == 0) (ahead (place (bound t e))) (back (place (offer (member t (i - 1)) e)))
inc_of_node member (exposure e) i = cond (i == 0) (ahead (place (demand e))) (back (place (bound (i - 1) e)))
inc_of_node member sink i = back (place (demand i))

abbrev pub deg_of : (ℕ → ℕ) → ℕ → ℕ
deg_of count v = deg_of_node count (node v)

abbrev pub inc_of : (ℕ → ℕ → ℕ) → ℕ → ℕ → ℕ
inc_of member v i = inc_of_node member (node v) i

-- the node that each leads to
abbrev pub target_of : Situation → (ℕ → ℕ → ℕ) → Node → ℕ → Node
target_of s member source i = lot i
target_of s member (lot l) i = cond (nat_lt i 16) (cell (slot s l) i) source
target_of s member (cell t e) i = cond (i == 0) (exposure e) (lot (member t (i - 1)))
target_of s member (exposure e) i = cond (i == 0) sink (cell (i - 1) e)
target_of s member sink i = exposure i
