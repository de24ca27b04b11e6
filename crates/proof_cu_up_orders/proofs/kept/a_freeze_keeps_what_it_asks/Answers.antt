use Rattle.proof_cu_up_orders.proofs.kept.Down as down_proofs
use Rattle.proof_cu_up_orders.proofs.kept.Up as up_proofs
use Rattle.proof_cu_up_orders.proofs.kept.a_freeze_keeps_what_it_asks.Goals as goal

pub returns : goal.returns
returns g c = record {
  down = λ s x p is final peer teid_down teid_up tested to hop assumed. down_proofs.freeze_kept s x p is tested.0 tested.3 to hop assumed;
  up = λ s x p is final peer teid_down teid_up tested to hop assumed. up_proofs.freeze_kept s x p is tested.3 tested.2 to hop assumed;
}
