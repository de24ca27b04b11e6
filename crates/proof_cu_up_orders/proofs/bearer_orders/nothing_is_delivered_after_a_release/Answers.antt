use Rattle.proof_cu_up_orders.proofs.bearer_orders.Up as up_proofs
use Rattle.proof_cu_up_orders.proofs.bearer_orders.nothing_is_delivered_after_a_release.Goals as goal

pub returns : goal.returns
returns g c = record {
  silent = λ way ue bearer s contexts hs has asked hush. up_proofs.all_silent way ue bearer s contexts hs has asked hush;
  released = λ s x beside p released order asked. up_proofs.released_hushed s x beside p released order asked;
}
