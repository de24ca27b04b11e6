use Rattle.proof_cu_up_orders.proofs.kept.Down as down_proofs
use Rattle.proof_cu_up_orders.proofs.kept.Up as up_proofs
use Rattle.proof_cu_up_orders.proofs.kept.control_keeps_what_it_asks.Goals as goal

pub returns : goal.returns
returns g c = record {
  down = λ s x p is known epoch final order tested asked assumed. down_proofs.control_kept s x p is known epoch final order tested asked assumed;
  up = λ s x p is final order tested assumed. up_proofs.control_kept s x p is final order tested assumed;
}
