use Rattle.command_bearers.proofs.command_dup.Applied.{begins}
use Rattle.command_bearers.proofs.command_dup.run.DupConfigScriptWord.begin.Goals as goal

pub returns : goal.returns
returns c = begins _ _ c.new.ensures
