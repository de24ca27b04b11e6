use Rattle.proof_bearer_refinement.proofs.core_step.Cores.{message_refined}
use Rattle.proof_bearer_refinement.proofs.core_step.messages_to_the_core_are_orders.Goals as goal

pub returns : goal.returns
returns c = λ reading n ue bearer sn quota s t number control_message outputs core d u step sound refined lead one.
    message_refined reading n ue bearer sn quota s t number control_message outputs core step sound d u refined lead one
