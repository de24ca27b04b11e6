use Rattle.proof_bearer_refinement.proofs.runs.Fair.{puts_fit}
use Rattle.law_handover_delivers.proofs.downlink_path_links.Tunnels.{step_from}
use Rattle.law_handover_delivers.proofs.downlink_path_links.others_put_nothing_there.Goals as goal

pub returns : goal.returns
returns c = λ reading event s t gnb number teid cause outputs units lines fair acted is far items there.
    step_from gnb number teid reading cause outputs units s t lines is far (puts_fit reading s event cause outputs units fair acted) items there
