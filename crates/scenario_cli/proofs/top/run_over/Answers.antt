use Rattle.scenario_cli.proofs.Joined.{ran, not_run}
use Rattle.scenario_cli.proofs.top.run_over.Goals as goal

pub returns-in-Ok : goal.returns-in-Ok
returns-in-Ok g c =
    ran _ _ _ _ _ c.status.ensures c.run_script.ensures.meets c.run_script.ensures.near c.run_script.ensures.complete

pub returns-in-Err : goal.returns-in-Err
returns-in-Err g c = not_run _ _ _ _ c.common_status.ensures
