use Rattle.std.proofs.Common.{refl}
use Rattle.proof_cu_up_orders.proofs.kept.Down as down_proofs
use Rattle.proof_cu_up_orders.proofs.kept.Up as up_proofs
use Rattle.proof_cu_up_orders.proofs.kept.an_end_is_an_order.Goals as goal

pub returns : goal.returns
returns g c = record {
  nothing_left = λ way p. refl;
  down = λ s x. down_proofs.end_is s x;
  down_asks = λ sn quota s x assumed. down_proofs.end_kept sn quota s x assumed;
  up = λ s x. up_proofs.end_is s x;
  up_asks = λ s x p is over. up_proofs.close_kept s x p is over;
  discarded = λ s x. up_proofs.discard_is s x;
  discards_ask = λ s x assumed. up_proofs.discard_kept s x assumed;
}
