use Rattle.commands.proofs.command_profile.Wrote.{wrote_all, wrote_front}
use Rattle.commands.proofs.command_profile.write_profile.Goals as goal

pub returns-in-Ok : goal.returns-in-Ok
returns-in-Ok g c =
    let h = wrote_all _ _ _ _ _ c.text.ensures c.in-Ok.ensures in
    record { meets = h.meets; complete = h.complete }

pub returns-in-Err : goal.returns-in-Err
returns-in-Err g c =
    let h = wrote_front _ _ _ _ _ _ c.text.ensures c.in-Err.ensures c.common_status.ensures in
    record { meets = h.meets; complete = h.complete }
