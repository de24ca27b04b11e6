use Rattle.scenario_cli.proofs.Joined.{usage_reported, usage_stopped}
use Rattle.scenario_cli.proofs.top.report_usage.Goals as goal

pub returns-in-Ok : goal.returns-in-Ok
returns-in-Ok g c = usage_reported _ _ _ _ c.stop_line.ensures c.in-Ok.ensures

pub returns : goal.returns
returns g c = usage_stopped _ _ _ _ _ _ c.stop_line.ensures c.in-Err.ensures c.common_status.ensures
