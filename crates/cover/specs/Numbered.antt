-- To believe: nothing that a call promises. The kinds of nodes, and the node that a number stands for.

use Rattle.std.specs.Prelude.{◌≡◌, ℕ, ◌<◌}
use Rattle.table.specs.Drawn.{node}
use Rattle.table.specs.Drawn.{Node as NodeOf}
use Rattle.table.specs.Drawn.Node.{source, lot, cell, exposure, sink}
use Rattle.cover.specs.declared.drawn.node.Node.{Node}
use Rattle.cover.specs.declared.drawn.node.Node.TheVariants.{Source, Lot, Cell, Exposure, Sink}

-- the node of the network, and that its places are among those that there are
abbrev pub shown : Node → NodeOf
shown Source = source
shown (Lot l) = lot l
shown (Cell p) = cell p.lot p.exposure
shown (Exposure e) = exposure e
shown Sink = sink

abbrev pub Placed : Node → Type 0
Placed Source = Unit {0}
Placed (Lot l) = l < 64
Placed (Cell p) = Unit {0}
Placed (Exposure e) = e < 16
Placed Sink = Unit {0}

abbrev pub Numbered : ℕ → Node → Type 0
Numbered v n = (node v ≡ shown n) × Placed n
