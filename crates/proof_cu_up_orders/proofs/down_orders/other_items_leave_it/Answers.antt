use Rattle.std.proofs.Common.{refl}
use Rattle.proof_cu_up_orders.proofs.down_orders.Beside.{beside, made_down}
use Rattle.proof_cu_up_orders.proofs.down_orders.other_items_leave_it.Goals as goal

pub returns : goal.returns
returns g c = record {
  items = λ way s x p is kind teid item fit. beside way s x p is kind teid item fit;
  made = λ s x ue bearer instance sn quota target teid. (refl, made_down s x ue bearer instance sn quota target teid);
}
