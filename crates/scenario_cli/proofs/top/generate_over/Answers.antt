use Rattle.std.proofs.Common.{refl}
use Rattle.command_run.proofs.generate.Wrote.{no_memory}
use Rattle.scenario_cli.proofs.top.generate_over.Goals as goal

pub returns-in-Err : goal.returns-in-Err
returns-in-Err g c =
    let h = no_memory _ _ _ _ _ _ c.common_status.ensures refl in
    record { meets = h.meets; complete = h.complete }
