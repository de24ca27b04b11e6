use Rattle.proof_bearer_refinement.proofs.cu_up_step.Steps.{ends_mirror}
use Rattle.proof_bearer_refinement.proofs.cu_up_step.tunnels_stay_the_lists.Goals as goal

pub returns : goal.returns
returns c = λ reading n ue bearer sn quota s t gnb number cause input outputs v d u b step sound refined all end o items was is there.
    ends_mirror reading n ue bearer s t gnb number cause input outputs v step sound.owned sound.standing_there sound.owned_after sound.own d u refined.mirrors b
    sn quota refined.down refined.up all end o items was is there
