-- To believe: what building a list of arcs does.

use Prim.{Unit}
use Rattle.std.specs.Prelude.{◌≡◌, ℕ, ◌+◌, ◌^◌, ◌<◌, ◌≤◌, cond, not, ◌&&◌, Some, None, Ok, Err, Option, Result, ◌==◌, ◌≢◌, nat_le, nat_lt}
use Rattle.network.specs.Flow.{Net}
use Rattle.network.specs.Same.{Same}
use Rattle.flow.specs.Stored.{listed_net, with_arc}
use Rattle.flow.specs.declared.stored.ArcList.{ArcList}
use Rattle.flow.specs.declared.stored.arcs.Unfit.{Unfit}
use Rattle.flow.specs.declared.stored.arcs.Unfit.TheVariants.{NodeUnknown, Full, CapacityLarge}

-- the network that a list stands for
abbrev pub net_of : ArcList → Net
net_of l = listed_net l.nodes l.arcs l.source l.sink l.ends l.caps

-- a new list: why it is refused, the first that applies
abbrev pub unopened : ℕ → ℕ → ℕ → Option Unfit
unopened nodes source sink = cond (nat_lt source nodes && (nat_lt sink nodes && not (source == sink))) (cond (nat_le nodes 2048) None (Some Full)) (Some NodeUnknown)

abbrev pub Endable : ℕ → ℕ → ℕ → Result Unit Unfit → Type 0
Endable nodes source sink (Ok _) = (unopened nodes source sink ≡ None) × (source < nodes) × (sink < nodes) × (source ≢ sink) × (nodes ≤ 2048)
Endable nodes source sink (Err e) = unopened nodes source sink ≡ Some e

abbrev pub Opened : ℕ → ℕ → ℕ → Result ArcList Unfit → Type 0
Opened nodes source sink (Ok l) = (unopened nodes source sink ≡ None) × (l.nodes ≡ nodes) × (l.source ≡ source) × (l.sink ≡ sink) × (l.arcs ≡ 0)
Opened nodes source sink (Err e) = unopened nodes source sink ≡ Some e

-- an arc more: why it is refused, the first that applies
abbrev pub unadded : ArcList → ℕ → ℕ → ℕ → Option Unfit
unadded l t h c = cond (nat_lt t l.nodes && nat_lt h l.nodes) (cond (nat_lt l.arcs 4096) (cond (nat_lt (l.total + c) (2 ^ 64)) None (Some CapacityLarge)) (Some Full)) (Some NodeUnknown)

abbrev pub Addable : ArcList → ℕ → ℕ → ℕ → Result ℕ Unfit → Type 0
Addable l t h c (Ok sum) = (unadded l t h c ≡ None) × (t < l.nodes) × (h < l.nodes) × (l.arcs < 4096) × (sum ≡ l.total + c) × (sum < 2 ^ 64)
Addable l t h c (Err e) = unadded l t h c ≡ Some e

abbrev pub Added : ArcList → ℕ → ℕ → ℕ → ArcList → Result ℕ Unfit → Type 0
Added l t h c l' (Ok k) = (unadded l t h c ≡ None) × (k ≡ l.arcs) × Same (with_arc (net_of l) t h c) (net_of l') × (l'.total ≡ l.total + c)
Added l t h c l' (Err e) = (unadded l t h c ≡ Some e) × (l' ≡ l)
