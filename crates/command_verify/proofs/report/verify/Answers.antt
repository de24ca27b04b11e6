use Rattle.std.proofs.Common.{◌∙◌}
use Rattle.command_verify.proofs.Reported.{unwritten, cut, written, complete, near}
use Rattle.command_verify.proofs.report.verify.Goals as goal

pub returns-in_default : goal.returns-in_default
returns-in_default g c =
    let encode = g.P.Spells.spelling c.args.spells.now in
    let meets = unwritten encode _ c.judge-verdict.ensures _ in
    record { meets = meets; near = near encode _ _ _ meets; complete = complete encode _ _ _ meets }

pub returns-in-Ok-write_all : goal.returns-in-Ok-write_all
returns-in-Ok-write_all g c =
    let encode = g.P.Spells.spelling c.args.spells.now in
    let meets = written encode _ c.judge-verdict.ensures _ (c.as_slice.ensures ∙ c.in-Ok.ensures) c.in-Ok-write_all.ensures in
    record { meets = meets; near = near encode _ _ _ meets; complete = complete encode _ _ _ meets }

pub returns : goal.returns
returns g c =
    let encode = g.P.Spells.spelling c.args.spells.now in
    let meets = cut encode _ c.judge-verdict.ensures _ (c.as_slice.ensures ∙ c.in-Ok.ensures) c.in-Err.ensures in
    record { meets = meets; near = near encode _ _ _ meets; complete = complete encode _ _ _ meets }
