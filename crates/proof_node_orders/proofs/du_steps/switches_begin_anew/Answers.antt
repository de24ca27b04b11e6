use Rattle.proof_node_orders.proofs.du_steps.Ways.{begins_kept, begins_on, begins_listen, set_up_fresh}
use Rattle.proof_node_orders.proofs.du_steps.switches_begin_anew.Goals as goal

pub returns : goal.returns
returns c = record {
  asked = begins_kept;
  begins = begins_on;
  listens = begins_listen;
  set_up = λ way. set_up_fresh way;
}
