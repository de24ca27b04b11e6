use Rattle.proof_node_orders.proofs.terminal_refusals.Refusals.{radio_none, confirmed_none, offered_none}
use Rattle.proof_node_orders.proofs.terminal_refusals.other_bearers_stay.Goals as goal

pub returns : goal.returns
returns c = record {
  radio = λ way u b bearer other far to ue. radio_none way u b bearer other far to ue;
  confirmed = λ way u b bearer other far to ue. confirmed_none way u b bearer other far to ue;
  offered = λ way u b bearer other far to ue. offered_none way u b bearer other far to ue;
}
