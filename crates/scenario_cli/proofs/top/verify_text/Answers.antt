use Rattle.scenario_cli.proofs.Joined.{not_judged}
use Rattle.scenario_cli.proofs.top.verify_text.Goals as goal

pub returns-in-Err : goal.returns-in-Err
returns-in-Err g c = not_judged _ _ _ c.common_status.ensures
