use Rattle.proof_bearer_refinement.proofs.uplink_radio.Terminals.{terminal_then, assumed_then}
use Rattle.proof_bearer_refinement.proofs.uplink_radio.terminals_keep_the_refinement.Goals as goal

pub returns : goal.returns
returns c = λ reading event s t ue bearer b refinement v cause input outputs step own to. (
  terminal_then reading event s t ue bearer b refinement v cause input outputs step own to,
  assumed_then reading event s t ue bearer b refinement v cause input outputs step own to,
)
