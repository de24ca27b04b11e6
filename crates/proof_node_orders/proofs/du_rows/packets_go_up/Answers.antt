use Rattle.proof_node_orders.proofs.du_rows.Frames.{carries_asked, carries_run, passes_is}
use Rattle.proof_node_orders.proofs.du_rows.packets_go_up.Goals as goal

pub returns : goal.returns
returns c = record {
  asked = carries_asked;
  became = carries_run;
  does = λ way r ue bearer c b held. passes_is way r ue bearer c b held;
}
