use Rattle.command_bearers.proofs.script_word.Finished.{finishes, finish_stopped}
use Rattle.command_bearers.proofs.script_word.run.finish.Goals as goal

pub returns-in-Ok : goal.returns-in-Ok
returns-in-Ok g c = finishes _ c.in-Some.line _ c.in-Some.is c.last_line.ensures c.in-Ok.ensures

pub returns : goal.returns
returns g c = finish_stopped _ c.in-Some.line _ c.in-Some.is c.last_line.ensures _ c.in-Err.ensures
