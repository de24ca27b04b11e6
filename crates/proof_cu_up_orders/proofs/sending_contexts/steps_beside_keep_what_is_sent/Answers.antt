use Rattle.proof_cu_up_orders.proofs.sending_contexts.Beside.{others_went, others_froze, path_offers, path_switches, du_takes_one, loses_one, receives_one}
use Rattle.proof_cu_up_orders.proofs.sending_contexts.steps_beside_keep_what_is_sent.Goals as goal

pub returns : goal.returns
returns c = record {
  others = others_went;
  froze = others_froze;
  offers = path_offers;
  path = path_switches;
  takes = du_takes_one;
  loses = loses_one;
  receives = receives_one;
}
