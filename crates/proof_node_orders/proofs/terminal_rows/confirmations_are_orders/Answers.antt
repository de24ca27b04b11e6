use Rattle.proof_node_orders.proofs.terminal_rows.Rows.{confirms_asked, confirms_does, unknown_asked, unknown_does, own_report_does}
use Rattle.proof_node_orders.proofs.terminal_rows.confirmations_are_orders.Goals as goal

pub returns : goal.returns
returns c = record {
  asked = confirms_asked;
  does = λ way u bearer s d seen. confirms_does way u bearer s d seen;
  without_count_asked = unknown_asked;
  without_count = λ way u bearer s d seen. unknown_does way u bearer s d seen;
  reports = λ way u bearer s d seen. own_report_does way u bearer s d seen;
}
