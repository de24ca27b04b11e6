use Rattle.command_values.proofs.Finished.{values_meet}
use Rattle.command_values.proofs.Whole.{complete, near}
use Rattle.command_values.proofs.run.run_values.Goals as goal

pub returns : goal.returns
returns g c =
    let meets = values_meet _ _ _ c.run-end.ensures c.finish.ensures in
    record { meets = meets; near = near _ _ _ _ meets; complete = complete _ _ _ _ meets }
