use Rattle.bearer_defs.specs.chain_defs.Models as down_models
use Rattle.bearer_defs.specs.uplink_defs.Models as up_models
use Rattle.law_downlink_order.proofs.chain.Laws as chain_laws
use Rattle.law_uplink_order.proofs.uplink.Laws as uplink_laws
use Rattle.proof_cu_up_orders.specs.bearer_orders.Down as downs
use Rattle.proof_cu_up_orders.specs.bearer_orders.Up as ups
use Rattle.proof_cu_up_orders.proofs.bearer_orders.Down as down_proofs
use Rattle.proof_cu_up_orders.proofs.bearer_orders.Up as up_proofs
use Rattle.proof_cu_up_orders.proofs.bearer_orders.happenings_deliver_in_order.Goals as goal

pub returns : goal.returns
returns g c = record {
  down = λ way ue bearer sn quota first teid contexts hs has asked.
      chain_laws.delivers_in_order sn quota first teid (downs.all_orders way ue bearer sn quota contexts hs)
      (down_proofs.all_steps way ue bearer sn quota (down_models.initial first teid) contexts hs has asked).0;
  up = λ way ue bearer first teid contexts hs has asked.
      uplink_laws.delivers_in_order first teid (ups.all_orders way ue bearer contexts hs)
      (up_proofs.all_steps way ue bearer (up_models.initial first teid) contexts hs has asked).0;
}
