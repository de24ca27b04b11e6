use Rattle.proof_bearer_refinement.proofs.du_puts.Dus.{du_refined}
use Rattle.proof_bearer_refinement.proofs.du_puts.puts_of_a_du_are_orders.Goals as goal

pub returns : goal.returns
returns c = λ reading n ue bearer sn quota s t gnb number cause input outputs v d u step sound refined lead.
    du_refined reading n ue bearer sn quota s t gnb number cause input outputs v step sound d u refined lead
