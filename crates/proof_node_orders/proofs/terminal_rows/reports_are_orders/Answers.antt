use Rattle.proof_node_orders.proofs.terminal_rows.Rows.{reports_asked, reports_does}
use Rattle.proof_node_orders.proofs.terminal_rows.reports_are_orders.Goals as goal

pub returns : goal.returns
returns c = record {
  asked = reports_asked;
  does = λ way u bearer s d seen. reports_does way u bearer s d seen;
}
