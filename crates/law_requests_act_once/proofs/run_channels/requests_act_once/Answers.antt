use Rattle.proof_run_steps.specs.control.Control.{control_of}
use Rattle.law_requests_act_once.proofs.run_channels.Exact.{exact_of}
use Rattle.law_requests_act_once.proofs.run_channels.Runs.{run_reached}
use Rattle.law_requests_act_once.proofs.run_channels.requests_act_once.Goals as goal

pub returns : goal.returns
returns c = λ reading fit events t is.
    let reached = run_reached reading fit events t is in exact_of (control_of t) reached.orders reached.comes
