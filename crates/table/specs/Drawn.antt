-- To believe: this is the network of a situation.
--
-- Its nodes are a source, one for each held lot, a cell for each open exposure and each issuer of a held lot, one for each open
-- exposure, and a sink. A cell is named by the issuer's smallest held lot place and the exposure. Its arcs lead from the source to
-- a lot, from a lot to the cell of its issuer at each exposure that admits it, from a cell to its exposure, and from an exposure to
-- the sink.
--
-- Nodes and arcs have numbers by their places, whether they are drawn or not, so that one numbering serves every situation. What is
-- not drawn has capacity 0: in no flow does it have room, and no walk comes to it. So it adds nothing to the network but unused
-- numbers.

use Rattle.std.specs.Prelude.{ℕ, zero, suc, ◌+◌, ◌-◌, ◌*◌, ◌/◌, ◌%◌, Bool, true, cond, ◌&&◌, ◌==◌, nat_lt}
use Rattle.network.specs.Sums.{sum_over, when}
use Rattle.network.specs.Flow.{Net}
use Rattle.table.specs.Table.{Situation, Table, allowed, of_issuer}

-- the least number up to n that passes the test, or n
unfoldable pub least : (ℕ → Bool) → ℕ → ℕ
least t zero = 0
least t (suc n) = cond (t (least t n)) (least t n) (suc n)

-- the smallest held lot place of the issuer i
abbrev pub slot_of : Situation → ℕ → ℕ
slot_of s i = least (of_issuer s i) 63

-- that of the issuer of the lot l; a place without a lot stands for itself
abbrev pub slot : Situation → ℕ → ℕ
slot s l = cond (s.held l) (slot_of s (s.issuer l)) l

-- t is the smallest held lot place of some issuer
abbrev pub leads : Situation → ℕ → Bool
leads s t = s.held t && slot s t == t

pub data Node : Type 0 where
  source : Node
  lot : ℕ → Node
  -- cell t e: the issuer with the smallest held lot place t, at the exposure e
  cell : ℕ → ℕ → Node
  exposure : ℕ → Node
  sink : Node

pub data Arc : Type 0 where
  -- from the source to the lot l
  supply : ℕ → Arc
  -- from the lot l to the cell of its issuer at the exposure e
  offer : ℕ → ℕ → Arc
  -- from the cell of t and e to the exposure e
  bound : ℕ → ℕ → Arc
  -- from the exposure e to the sink
  demand : ℕ → Arc

abbrev pub tail_of : Arc → Node
tail_of (supply l) = source
tail_of (offer l e) = lot l
tail_of (bound t e) = cell t e
tail_of (demand e) = exposure e

abbrev pub head_of : Situation → Arc → Node
head_of s (supply l) = lot l
head_of s (offer l e) = cell (slot s l) e
head_of s (bound t e) = exposure e
head_of s (demand e) = sink

-- which nodes and which arcs are drawn
abbrev pub drawn_node : Situation → Node → Bool
drawn_node s source = true
drawn_node s (lot l) = s.held l
drawn_node s (cell t e) = leads s t && s.opened e
drawn_node s (exposure e) = s.opened e
drawn_node s sink = true

abbrev pub drawn_arc : Situation → Arc → Bool
drawn_arc s (supply l) = s.held l
drawn_arc s (offer l e) = allowed s l e
drawn_arc s (bound t e) = leads s t && s.opened e
drawn_arc s (demand e) = s.opened e

-- what a drawn arc can carry
abbrev pub bears : Situation → Arc → ℕ
bears s (supply l) = s.worth l
bears s (offer l e) = s.worth l
bears s (bound t e) = s.limit e (s.issuer t)
bears s (demand e) = s.amount e

abbrev pub cap_of : Situation → Arc → ℕ
cap_of s a = when (drawn_arc s a) (bears s a)

-- the numbers of the nodes and of the arcs
abbrev pub number : Node → ℕ
number source = 0
number (lot l) = 1 + l
number (cell t e) = 65 + (t * 16 + e)
number (exposure e) = 1089 + e
number sink = 1105

abbrev pub place : Arc → ℕ
place (supply l) = l
place (offer l e) = 64 + (l * 16 + e)
place (bound t e) = 1088 + (t * 16 + e)
place (demand e) = 2112 + e

-- and which node or arc has a number
unfoldable pub node : ℕ → Node
node v = cond (nat_lt v 1) source (cond (nat_lt v 65) (lot (v - 1)) (cond (nat_lt v 1089) (cell ((v - 65) / 16) ((v - 65) % 16)) (cond (nat_lt v 1105) (exposure (v - 1089)) sink)))

unfoldable pub arc : ℕ → Arc
arc k = cond (nat_lt k 64) (supply k) (cond (nat_lt k 1088) (offer ((k - 64) / 16) ((k - 64) % 16)) (cond (nat_lt k 2112) (bound ((k - 1088) / 16) ((k - 1088) % 16)) (demand (k - 2112))))

-- the network
abbrev pub net_of : Situation → Net
net_of s = record {
  nodes = 1106;
  arcs = 2128;
  tail = λ k. number (tail_of (arc k));
  head = λ k. number (head_of s (arc k));
  cap = λ k. cap_of s (arc k);
  source = 0;
  sink = 1105;
}

-- how many nodes are drawn
abbrev pub drawn_nodes : Situation → ℕ
drawn_nodes s = sum_over 1106 (λ v. when (drawn_node s (node v)) 1)

-- What a table sends along an arc: along that of a lot all its pledges, along that from a lot to a cell the one pledge, along that
-- of a cell the pledges to the exposure from the issuer's lots, along that of an exposure all pledges to it.
abbrev pub along : Situation → Table → Arc → ℕ
along s p (supply l) = sum_over 16 (λ e. p l e)
along s p (offer l e) = p l e
along s p (bound t e) = sum_over 64 (λ l. when (t == slot s l) (p l e))
along s p (demand e) = sum_over 64 (λ l. p l e)

-- the flow of a table, and the table of a flow
abbrev pub flow_of : Situation → Table → ℕ → ℕ
flow_of s p k = along s p (arc k)

abbrev pub table_of : (ℕ → ℕ) → Table
table_of f l e = f (place (offer l e))
