use Rattle.proof_bearer_refinement.proofs.f1u_frames.Steps.{tunnel_has}
use Rattle.proof_bearer_refinement.proofs.f1u_frames.a_tunnel_has_what_is_sent.Goals as goal

pub returns : goal.returns
returns c = λ reading ue bearer s t gnb number cause input outputs v du place teid owner items step owned holds_own found own there.
    tunnel_has reading ue bearer s t gnb number cause input outputs v step owned holds_own du place teid owner found own items there
