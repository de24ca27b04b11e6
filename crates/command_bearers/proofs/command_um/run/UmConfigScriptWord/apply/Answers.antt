use Rattle.command_bearers.proofs.command_um.Applied.{event_passes, event_outstanding, event_spends}
use Rattle.command_bearers.proofs.command_um.run.UmConfigScriptWord.apply.Goals as goal

pub returns-in-Ok : goal.returns-in-Ok
returns-in-Ok c = event_passes _ _ _ _ _ _ c.happening.ensures c.in-Ok.ensures

pub returns-in-Err-Outstanding : goal.returns-in-Err-Outstanding
returns-in-Err-Outstanding c =
    event_outstanding _ _ _ _ _ _ _ _ _ c.in-Err-Outstanding.field-0-is c.in-Err-Outstanding.ensures c.happening-in-Err-Outstanding.ensures

pub returns-in-Err-Spent : goal.returns-in-Err-Spent
returns-in-Err-Spent c =
    event_spends _ _ _ _ _ _ c.in-Err-Spent.counter _ c.in-Err-Spent.field-0-is c.in-Err-Spent.ensures c.happening-in-Err-Spent.ensures
