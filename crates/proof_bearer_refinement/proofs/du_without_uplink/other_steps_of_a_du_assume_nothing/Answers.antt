use Rattle.proof_bearer_refinement.proofs.du_without_uplink.Steps.{acts}
use Rattle.proof_bearer_refinement.proofs.du_without_uplink.other_steps_of_a_du_assume_nothing.Goals as goal

pub returns : goal.returns
returns c = λ reading n ue bearer sn quota p q event gnb number cause input outputs left fair fair_then acted step leaves down_is up_is.
    acts reading n ue bearer sn quota p q event gnb number cause input outputs left fair fair_then acted step leaves down_is up_is
