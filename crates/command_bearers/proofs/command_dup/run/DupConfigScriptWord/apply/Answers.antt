use Rattle.command_bearers.proofs.command_dup.Applied.{event_passes, event_outstanding, event_spends}
use Rattle.command_bearers.proofs.command_dup.run.DupConfigScriptWord.apply.Goals as goal

pub returns-in-Ok : goal.returns-in-Ok
returns-in-Ok c = event_passes _ _ _ _ _ _ c.happening.ensures c.in-Ok.ensures

pub returns-in-Err-Outstanding : goal.returns-in-Err-Outstanding
returns-in-Err-Outstanding c =
    event_outstanding _ _ _ _ _ _ _ _ _ c.in-Err-Outstanding.field-0-is c.in-Err-Outstanding.ensures c.happening-in-Err-Outstanding.ensures

pub returns-in-Err-CountsSpent : goal.returns-in-Err-CountsSpent
returns-in-Err-CountsSpent c =
    event_spends _ _ _ _ _ _ _ c.in-Err-CountsSpent.field-0-is c.in-Err-CountsSpent.ensures c.happening-in-Err-CountsSpent.ensures
