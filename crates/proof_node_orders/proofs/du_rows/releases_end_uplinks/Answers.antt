use Rattle.proof_node_orders.proofs.du_rows.Contexts.{marks_asked, marks_run, release_ends}
use Rattle.proof_node_orders.proofs.du_rows.releases_end_uplinks.Goals as goal

pub returns : goal.returns
returns c = record {
  asked = marks_asked;
  became = marks_run;
  does = λ way. release_ends way;
}
