use Rattle.proof_bearer_refinement.proofs.runs.Fair.{passed_is_fair, comes_gives, fair_sound}
use Rattle.proof_bearer_refinement.proofs.runs.states_of_a_run_are_fair.Goals as goal

pub returns : goal.returns
returns c = record {
  passed = λ reading s at. passed_is_fair reading s at;
  later = λ reading s t comes. comes_gives reading s t comes;
  sound = λ s t before after. fair_sound s t before after;
}
