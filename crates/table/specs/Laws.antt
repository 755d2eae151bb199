-- To believe: nothing; these are the theorems, over the definitions of the other files.

use Rattle.std.specs.Prelude.{◌≡◌, ℕ, ◌+◌, ◌-◌, ◌*◌, ◌<◌, ◌≤◌, true, ◌↔◌, nat_lt}
use Rattle.network.specs.Sums.{sum_over, Agree}
use Rattle.network.specs.Flow.{Flow, value, Cut, capacity, Maximum, Minimum}
use Rattle.network.specs.Residual.{Distances, from, to, room}
use Rattle.table.specs.Table.{Situation, Table, SameTable, Lawful, Covers, pledged, owed, uncovered, Shortage}
use Rattle.table.specs.Drawn.{net_of, arc, node, cap_of, drawn_node, drawn_nodes, flow_of, table_of}
use Rattle.table.specs.Paths.{share}
use Rattle.table.specs.Record.{Marks, Explains, cut_of, marks_of}
use Rattle.table.specs.Outcome.{Chain, Granted, Short}
use Rattle.table.specs.Agreement.{Agrees}

-- a lawful table is a flow, whose value is all that is pledged, and the table of that flow is the table again
abbrev pub TablesAreFlows : Type 0
TablesAreFlows = (s : Situation) (p : Table) → Lawful s p
    → Flow (net_of s) (flow_of s p) × (value (net_of s) (flow_of s p) ≡ pledged p) × SameTable (table_of (flow_of s p)) p

-- and a flow is a lawful table, which pledges its value, and the flow of that table is the flow again
abbrev pub FlowsAreTables : Type 0
FlowsAreTables = (s : Situation) (f : ℕ → ℕ) → Flow (net_of s) f
    → Lawful s (table_of f) × (pledged (table_of f) ≡ value (net_of s) f) × Agree 2128 (flow_of s (table_of f)) f

-- a table is lawful exactly if it sends along each arc no more than that can carry
abbrev pub LawfulWithin : Type 0
LawfulWithin = (s : Situation) (p : Table) → Lawful s p ↔ ((k : ℕ) → k < 2128 → flow_of s p k ≤ cap_of s (arc k))

-- a table's flow is the sum of its pledges' paths
abbrev pub PathsAddUp : Type 0
PathsAddUp = (s : Situation) (p : Table) (k : ℕ) → k < 2128 → flow_of s p k ≡ sum_over 64 (λ l. sum_over 16 (λ e. share s l e (p l e) k))

-- a lawful table covers exactly if it pledges all that is owed
abbrev pub CoversAll : Type 0
CoversAll = (s : Situation) (p : Table) → Lawful s p → Covers s p ↔ (pledged p ≡ owed s)

-- some lawful table covers exactly if a maximum flow has the value of all that is owed, and then its own table does
abbrev pub CoveredAtMaximum : Type 0
CoveredAtMaximum = (s : Situation) (f : ℕ → ℕ) → Maximum (net_of s) f
    → (((p : Table) × Lawful s p × Covers s p) ↔ (value (net_of s) f ≡ owed s))
    × (value (net_of s) f ≡ owed s → Lawful s (table_of f) × Covers s (table_of f))

-- the least shortage is what a maximum flow leaves of all that is owed
abbrev pub LeastShortage : Type 0
LeastShortage = (s : Situation) (f : ℕ → ℕ) → Maximum (net_of s) f → Shortage s (owed s - value (net_of s) f)

-- where no walk comes to the sink and something is left uncovered, the nodes that are reached give marks that explain it
abbrev pub ReachedExplains : Type 0
ReachedExplains = (s : Situation) (f mark : ℕ → ℕ) → Flow (net_of s) f → Distances (net_of s) f mark → mark 1105 ≡ 0 → value (net_of s) f < owed s
    → Explains s (marks_of s (λ v. nat_lt 0 (mark v))) (owed s - value (net_of s) f)

-- no lawful table leaves less uncovered than any record explains, whoever made the record
abbrev pub RecordBinds : Type 0
RecordBinds = (s : Situation) (m : Marks) (x : ℕ) → Explains s m x → (p : Table) → Lawful s p → x ≤ uncovered s p

-- Such a record draws a cut of the network, whose capacity is what is owed less what the record explains. Where it explains the least
-- shortage, that is a minimum cut.
abbrev pub RecordCuts : Type 0
RecordCuts = (s : Situation) (m : Marks) (x : ℕ) → Explains s m x
    → Cut (net_of s) (cut_of s m)
    × (capacity (net_of s) (cut_of s m) + x ≡ owed s)
    × (Shortage s x → Minimum (net_of s) (cut_of s m))

-- only what is drawn counts: in a flow, an arc with room leads from a drawn node to a drawn node
abbrev pub RoomIsDrawn : Type 0
RoomIsDrawn = (s : Situation) (f : ℕ → ℕ) (a : ℕ) → Flow (net_of s) f → a < 2 * 2128 → 0 < room (net_of s) f a
    → (drawn_node s (node (from (net_of s) a)) ≡ true) × (drawn_node s (node (to (net_of s) a)) ≡ true)

-- and a chain has fewer rounds than the network has drawn nodes
abbrev pub RoundsWithinDrawn : Type 0
RoundsWithinDrawn = (s : Situation) (k : ℕ) (p q : Table) → Lawful s p → Chain s k p q → k < drawn_nodes s

-- situations that agree in all that counts have the same lawful and covering tables, chains, outcomes and records
abbrev pub AgreementKeeps : Type 0
AgreementKeeps = (s r : Situation) → Agrees s r
    → ((p : Table) → Lawful s p ↔ Lawful r p)
    × ((p : Table) → Covers s p ↔ Covers r p)
    × ((k : ℕ) (p q : Table) → Chain s k p q ↔ Chain r k p q)
    × ((x : ℕ) → Shortage s x ↔ Shortage r x)
    × ((m : Marks) (x : ℕ) → Explains s m x ↔ Explains r m x)
    × ((k : ℕ) (p q : Table) → Granted s k p q ↔ Granted r k p q)
    × ((x : ℕ) (m : Marks) → Short s x m ↔ Short r x m)
