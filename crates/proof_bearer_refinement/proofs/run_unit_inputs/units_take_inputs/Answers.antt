use Rattle.proof_bearer_refinement.proofs.run_unit_inputs.Runs.{units_go}
use Rattle.proof_bearer_refinement.proofs.run_unit_inputs.units_take_inputs.Goals as goal

pub returns : goal.returns
returns c = record {
  ups = λ reading events s t is. (units_go reading events s t is).0;
  dus = λ reading events s t is. (units_go reading events s t is).1;
}
