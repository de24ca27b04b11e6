use Rattle.proof_run_steps.specs.control.Control.{control_of}
use Rattle.law_requests_act_once.proofs.run_channels.Runs.{run_passes}
use Rattle.law_requests_act_once.proofs.run_once.Passed.{all_fit_rows}
use Rattle.law_requests_act_once.proofs.run_once.cu_cps_fit.Goals as goal

pub returns : goal.returns
returns c = record {
  passed = λ reading k passed. all_fit_rows reading k passed;
  reached = λ reading events t is. all_fit_rows reading (control_of t) (run_passes reading (all_fit_rows reading) events t is).1;
}
