use Rattle.proof_node_orders.proofs.terminal_rows.Rows.{offers_asked, offers_does}
use Rattle.proof_node_orders.proofs.terminal_rows.offers_are_orders.Goals as goal

pub returns : goal.returns
returns c = record {
  asked = offers_asked;
  does = λ way u bearer s d seen. offers_does way u bearer s d seen;
}
