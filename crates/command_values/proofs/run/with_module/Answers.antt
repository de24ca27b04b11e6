use Rattle.std.proofs.Common.{sym}
use Rattle.command_values.proofs.Turned.{no_type}
use Rattle.command_values.proofs.run.with_module.Goals as goal

pub returns-in_default : goal.returns-in_default
returns-in_default g c = no_type _ _ _ (sym c.in_default.ensures.id)
