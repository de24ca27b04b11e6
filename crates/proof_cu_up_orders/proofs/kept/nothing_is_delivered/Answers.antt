use Rattle.law_uplink_order.specs.after_release.Silent.{AreSilent}
use Rattle.proof_cu_up_orders.proofs.kept.Released.{item_silent, control_silent, silent_together, in_order_still}
use Rattle.proof_cu_up_orders.proofs.kept.nothing_is_delivered.Goals as goal

pub returns : goal.returns
unfolding AreSilent
returns g c = record {
  items = λ s x p is released kind teid item rest. item_silent s x p released is kind teid item rest;
  asked = λ s x p released final order tested asked. control_silent s x p released final order tested asked;
  ends = λ s x to hop. ((tt, tt), (tt, tt), (tt, tt), (tt, tt));
  together = λ s orders more silent later. silent_together s orders more silent later;
  in_order = λ first teid orders more kept silent x p is released kind from item rest.
      in_order_still first teid orders more kept silent x p is released kind from item rest;
}
