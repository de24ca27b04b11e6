use Rattle.proof_cu_up_orders.proofs.bearer_orders.Down as down_proofs
use Rattle.proof_cu_up_orders.proofs.bearer_orders.Up as up_proofs
use Rattle.proof_cu_up_orders.proofs.bearer_orders.happenings_are_orders.Goals as goal

pub returns : goal.returns
returns g c = record {
  down = λ way ue bearer sn quota s contexts hs has asked. down_proofs.all_steps way ue bearer sn quota s contexts hs has asked;
  up = λ way ue bearer s contexts hs has asked. up_proofs.all_steps way ue bearer s contexts hs has asked;
}
