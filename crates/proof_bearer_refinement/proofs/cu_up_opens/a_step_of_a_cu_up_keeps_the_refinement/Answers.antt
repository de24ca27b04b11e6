use Rattle.proof_bearer_refinement.proofs.cu_up_opens.Ups.{up_refined}
use Rattle.proof_bearer_refinement.proofs.cu_up_opens.a_step_of_a_cu_up_keeps_the_refinement.Goals as goal

pub returns : goal.returns
returns c = λ reading n ue bearer sn quota s t gnb number cause input outputs v b d u step sound refined fresh ask.
    up_refined reading n ue bearer sn quota s t gnb number cause input outputs v b step sound d u refined ask fresh
