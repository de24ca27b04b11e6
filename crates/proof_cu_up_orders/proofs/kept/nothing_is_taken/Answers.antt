use Rattle.law_uplink_order.specs.after_release.Silent.{TakeNone}
use Rattle.proof_cu_up_orders.proofs.kept.Released.{item_none, control_none}
use Rattle.proof_cu_up_orders.proofs.kept.nothing_is_taken.Goals as goal

pub returns : goal.returns
unfolding TakeNone
returns g c = record {
  items = λ x p rest kind item. item_none x p rest kind item;
  asked = λ x epoch p order. control_none x p epoch order;
  ends = λ x to hop. ((tt, tt), (tt, tt));
}
