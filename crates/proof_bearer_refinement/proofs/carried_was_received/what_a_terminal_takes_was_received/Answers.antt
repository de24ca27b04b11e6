use Rattle.proof_bearer_refinement.proofs.carried_was_received.Receives.{taken_known}
use Rattle.proof_bearer_refinement.proofs.carried_was_received.what_a_terminal_takes_was_received.Goals as goal

pub returns : goal.returns
returns c = λ reading event s u b ue bearer to sn quota kept some own input cause given stands assumed.
    taken_known u b bearer to sn quota kept some reading event s own ue input cause given stands assumed
