use Rattle.proof_bearer_refinement.proofs.downlink_radio.Waits.{silent_down}
use Rattle.proof_bearer_refinement.proofs.downlink_radio.a_silent_radio_is_so.Goals as goal

pub returns : goal.returns
returns c = silent_down
