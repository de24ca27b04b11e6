use Rattle.std.proofs.Common.{◌∙◌}
use Rattle.commands.proofs.command_check.Reported.{unwritten, cut, written, complete, near}
use Rattle.commands.proofs.command_check.report.check_input.Goals as goal

pub returns-in_default : goal.returns-in_default
returns-in_default g c =
    let meets = unwritten _ _ c.check_module-answer.ensures in
    record { meets = meets; near = near _ _ _ meets; complete = complete _ _ _ meets }

pub returns-in-Ok-write_all : goal.returns-in-Ok-write_all
returns-in-Ok-write_all g c =
    let meets = written _ _ _ c.check_module-answer.ensures (c.as_slice.ensures ∙ c.in-Ok.ensures) c.in-Ok-write_all.ensures c.end_of.ensures in
    record { meets = meets; near = near _ _ _ meets; complete = complete _ _ _ meets }

pub returns : goal.returns
returns g c =
    let meets = cut _ _ c.check_module-answer.ensures (c.as_slice.ensures ∙ c.in-Ok.ensures) c.in-Err.ensures in
    record { meets = meets; near = near _ _ _ meets; complete = complete _ _ _ meets }
