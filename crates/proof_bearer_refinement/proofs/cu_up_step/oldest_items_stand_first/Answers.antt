use Rattle.proof_bearer_refinement.proofs.cu_up_step.Steps.{step_asks}
use Rattle.proof_bearer_refinement.proofs.cu_up_step.oldest_items_stand_first.Goals as goal

pub returns : goal.returns
returns c = λ reading n ue bearer sn quota s t gnb number cause input outputs v d u b step sound refined all.
    step_asks reading n ue bearer s t gnb number cause input outputs v step sound.owned sound.standing_there sound.owned_after sound.own d u refined.mirrors b
    sn quota refined.down refined.up all
