use Rattle.table.proofs.Tables.{lawful_flow, pledged_value, table_again}
use Rattle.table.proofs.tables_are_flows.Goals as goal

pub returns : goal.returns
returns c = λ s p w. (lawful_flow s p w, pledged_value s p, table_again s p)
