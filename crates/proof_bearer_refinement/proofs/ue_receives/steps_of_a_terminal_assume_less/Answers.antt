use Rattle.proof_bearer_refinement.proofs.ue_receives.Steps.{step_is, assumes_less, first_there}
use Rattle.proof_bearer_refinement.proofs.ue_receives.steps_of_a_terminal_assume_less.Goals as goal

pub returns : goal.returns
returns c = record {
  steps = λ reading n ue bearer sn quota p q event refinement v cause input outputs to fair step acted kept assumed down_is up_is.
      step_is reading n ue bearer sn quota p q event refinement v cause outputs to fair kept input step acted assumed down_is up_is;
  less = assumes_less;
  first = λ reading n ue bearer sn quota p q event refinement v cause input outputs to fair step acted kept on_radio some assumed down_is up_is.
      first_there reading n ue bearer sn quota p q event refinement v cause outputs to fair kept input step acted on_radio some assumed down_is up_is;
}
