use Rattle.command_values.proofs.Turned.{no_reader, no_module}
use Rattle.command_values.proofs.run.run.Goals as goal

pub returns-in_default : goal.returns-in_default
returns-in_default g c = no_reader _ _ _

pub returns : goal.returns
returns g c = no_module _ _ c.in-Err.stop _ c.in-Err.ensures c.from.ensures
