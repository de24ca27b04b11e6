use Rattle.proof_bearer_refinement.proofs.downlink_radio.Terminals.{assumes_rest, down_then}
use Rattle.proof_bearer_refinement.proofs.downlink_radio.a_terminal_takes_what_stands_first.Goals as goal

pub returns : goal.returns
returns c = λ reading event s t ue bearer b refinement sn quota kept down some v cause input outputs step own to. (
  assumes_rest reading event s t ue bearer b refinement sn quota kept down some v cause input outputs step own to,
  down_then reading event s t ue bearer b refinement sn quota kept down some v cause input outputs step own to,
)
