use Rattle.proof_node_orders.proofs.du_rows.Frames.{takes_asked, takes_is, takes_air, kept_there, others_stay, terminals_stay}
use Rattle.proof_node_orders.proofs.du_rows.frames_are_taken.Goals as goal

pub returns : goal.returns
returns c = record {
  asked = takes_asked;
  does = λ way. takes_is way;
  air = takes_air;
  held = λ way. kept_there way;
  other_bearers = λ way. others_stay way;
  other_terminals = λ way. terminals_stay way;
}
