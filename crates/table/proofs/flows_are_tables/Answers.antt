use Rattle.table.proofs.Tables.{flow_lawful, flow_value, flow_again}
use Rattle.table.proofs.flows_are_tables.Goals as goal

pub returns : goal.returns
returns c = λ s f q. (flow_lawful s f q, flow_value s f q, flow_again s f q)
