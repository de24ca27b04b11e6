use Rattle.proof_node_orders.proofs.core_rows.Lists.{path_over}
use Rattle.proof_node_orders.proofs.core_rows.lists_are_orders.Goals as goal

pub returns : goal.returns
returns c = λ way places ue bearer r s ms is one. path_over way places ue bearer r s ms is one
