use Rattle.proof_bearer_refinement.proofs.other_contexts.Orders.{asked_sends}
use Rattle.proof_bearer_refinement.proofs.other_contexts.orders_elsewhere_keep_what_is_sent.Goals as goal

pub returns : goal.returns
returns c = λ n ue bearer units sn quota x y far b d cs orders bearer_there w h.
    asked_sends x y far n ue bearer units sn quota b d cs orders bearer_there w h
