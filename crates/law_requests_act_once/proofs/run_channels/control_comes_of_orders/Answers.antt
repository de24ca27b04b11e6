use Rattle.law_requests_act_once.proofs.run_channels.Runs.{run_reached}
use Rattle.law_requests_act_once.proofs.run_channels.control_comes_of_orders.Goals as goal

pub returns : goal.returns
returns c = λ reading fit events t is.
    let reached = run_reached reading fit events t is in (reached.orders, reached.comes)
