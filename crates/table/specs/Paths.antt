-- To believe: along which arcs a pledge is sent.
-- The path of a pledge through the network: from the source to the lot, to the cell of its issuer at the exposure, to the exposure,
-- to the sink.

use Rattle.std.specs.Prelude.{ℕ, ◌+◌, ◌==◌}
use Rattle.network.specs.Sums.{when}
use Rattle.table.specs.Table.{Situation}
use Rattle.table.specs.Drawn.{place, slot}
use Rattle.table.specs.Drawn.Arc.{supply, offer, bound, demand}

-- what a pledge of x from the lot l to the exposure e sends along the arc of number k: x along each of the four arcs
abbrev pub share : Situation → ℕ → ℕ → ℕ → ℕ → ℕ
share s l e x k = when (place (supply l) == k) x + when (place (offer l e) == k) x + when (place (bound (slot s l) e) == k) x + when (place (demand e) == k) x
