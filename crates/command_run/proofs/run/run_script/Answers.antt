use Rattle.command_run.proofs.Finished.{run_meets}
use Rattle.command_run.proofs.Whole.{complete, near}
use Rattle.command_run.proofs.run.run_script.Goals as goal

pub returns : goal.returns
returns g c =
    let meets = run_meets _ _ c.run-end.ensures c.finish.ensures in
    record { meets = meets; near = near _ _ _ _ meets; complete = complete _ _ _ _ meets }
