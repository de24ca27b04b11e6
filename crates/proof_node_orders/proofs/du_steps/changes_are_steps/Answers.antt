use Rattle.proof_node_orders.proofs.du_steps.Ways.{takes_kept, takes_on, takes_received, loses_kept, loses_run}
use Rattle.proof_node_orders.proofs.du_steps.changes_are_steps.Goals as goal

pub returns : goal.returns
returns c = record {
  taken_asked = takes_kept;
  taken = takes_on;
  was_received = takes_received;
  closed_asked = loses_kept;
  closed = loses_run;
}
