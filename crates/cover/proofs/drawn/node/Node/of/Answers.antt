use Rattle.std.proofs.Common.{◌≡◌, ap, ◌∙◌, arith}
use Rattle.table.specs.Drawn.{node}
use Rattle.table.proofs.Nodes.{node_source, node_lots, node_cells, node_exposures, node_sinks}
use Rattle.cover.proofs.drawn.node.Node.of.Goals as goal

pub returns-then-v-lt-LOT_NODES : goal.returns-then-v-lt-LOT_NODES
returns-then-v-lt-LOT_NODES c = let z : c.args.v ≡ 0 = omega arith in (ap node z ∙ node_source, tt)

pub returns-then-v-lt-CELL_NODES : goal.returns-then-v-lt-CELL_NODES
returns-then-v-lt-CELL_NODES c = (node_lots c.args.v (omega arith) (omega arith), omega arith)

pub returns-then-v-lt-EXPOSURE_NODES : goal.returns-then-v-lt-EXPOSURE_NODES
returns-then-v-lt-EXPOSURE_NODES c = let n = node_cells c.args.v (omega arith) (omega arith) in (cc, tt)

pub returns-then-v-lt-SINK : goal.returns-then-v-lt-SINK
returns-then-v-lt-SINK c = (node_exposures c.args.v (omega arith) (omega arith), omega arith)

pub returns-else-v-lt-SINK : goal.returns-else-v-lt-SINK
returns-else-v-lt-SINK c = (node_sinks c.args.v (omega arith), tt)
