use Rattle.proof_node_orders.proofs.du_rows.Contexts.{modify_has, modify_held, begins_run, setup_has, made_there}
use Rattle.proof_node_orders.proofs.du_rows.new_radios_have_no_gap.Goals as goal

pub returns : goal.returns
returns c = record {
  modifications = λ way. modify_has way;
  renews = λ way. modify_held way;
  begins = begins_run;
  setups = λ way. setup_has way;
  starts = made_there;
}
