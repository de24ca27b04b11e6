use Rattle.proof_bearer_refinement.proofs.frame_set_up.SetUp.{is_left}
use Rattle.proof_bearer_refinement.proofs.frame_set_up.a_set_up_leaves_other_bearers.Goals as goal

pub returns : goal.returns
returns c = λ reading n ue bearer s plan fair fair_then free teids apart. is_left reading n ue bearer s plan fair fair_then free teids apart
