use Rattle.proof_cu_up_orders.proofs.kept.Down as down_proofs
use Rattle.proof_cu_up_orders.proofs.kept.Up as up_proofs
use Rattle.proof_cu_up_orders.proofs.kept.items_keep_what_they_ask.Goals as goal

pub returns : goal.returns
returns g c = record {
  down = λ s x p is stands kind item rest fit passes first assumed. down_proofs.item_kept s x p is stands kind item rest fit passes first assumed;
  up = λ s x p is kind teid item rest fit passes first. up_proofs.item_kept s x p is kind teid item rest fit passes first;
}
