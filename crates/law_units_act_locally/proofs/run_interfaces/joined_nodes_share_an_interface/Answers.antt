use Rattle.law_units_act_locally.proofs.run_interfaces.Turns.{joined_share}
use Rattle.law_units_act_locally.proofs.run_interfaces.joined_nodes_share_an_interface.Goals as goal

pub returns : goal.returns
returns c = λ interface from to joins. joined_share interface from to joins
