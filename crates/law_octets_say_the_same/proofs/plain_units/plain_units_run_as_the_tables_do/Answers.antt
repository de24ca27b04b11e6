use Rattle.law_octets_say_the_same.proofs.plain_units.Alike.{plain_alike}
use Rattle.law_octets_say_the_same.proofs.plain_units.plain_units_run_as_the_tables_do.Goals as goal

pub returns : goal.returns
returns g c = λ codec keep plain events fits. plain_alike g.U.Units.in_range codec (g.U.Units.answer codec) keep plain events fits
