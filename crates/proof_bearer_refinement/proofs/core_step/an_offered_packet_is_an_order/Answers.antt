use Rattle.proof_bearer_refinement.proofs.core_step.Cores.{offer_refined}
use Rattle.proof_bearer_refinement.proofs.core_step.an_offered_packet_is_an_order.Goals as goal

pub returns : goal.returns
returns c = λ reading n ue bearer sn quota s t who which packet path d u step sound refined lead.
    offer_refined reading n ue bearer sn quota s t who which packet path step sound d u refined lead
