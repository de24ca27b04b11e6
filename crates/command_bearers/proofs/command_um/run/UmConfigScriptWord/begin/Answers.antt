use Rattle.command_bearers.proofs.command_um.Applied.{begins}
use Rattle.command_bearers.proofs.command_um.run.UmConfigScriptWord.begin.Goals as goal

pub returns : goal.returns
returns c = begins _ _ c.new.ensures
