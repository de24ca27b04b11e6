use Rattle.law_requests_act_once.proofs.run_channels.Runs.{run_reached}
use Rattle.law_requests_act_once.proofs.run_once.Passed.{all_fit_rows}
use Rattle.law_requests_act_once.proofs.run_once.control_comes_of_orders.Goals as goal

pub returns : goal.returns
returns c = λ reading events t is.
    let reached = run_reached reading (all_fit_rows reading) events t is in (reached.orders, reached.comes)
