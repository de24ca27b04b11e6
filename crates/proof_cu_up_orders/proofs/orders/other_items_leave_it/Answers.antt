use Rattle.std.proofs.Common.{refl}
use Rattle.proof_cu_up_orders.proofs.orders.Beside.{beside, polled, made_up}
use Rattle.proof_cu_up_orders.proofs.orders.other_items_leave_it.Goals as goal

pub returns : goal.returns
returns g c = record {
  items = λ way s x p is kind teid item fit. beside way s x p is kind teid item fit;
  asked_frames = λ way s x p is. polled way s x p is;
  made = λ s x ue bearer instance sn quota teid. (refl, made_up s x ue bearer instance sn quota teid);
}
