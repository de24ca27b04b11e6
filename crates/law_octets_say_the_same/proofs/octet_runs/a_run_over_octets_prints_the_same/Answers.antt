use Rattle.law_octets_say_the_same.proofs.octet_runs.Runs.{runs_print}
use Rattle.law_octets_say_the_same.proofs.octet_runs.a_run_over_octets_prints_the_same.Goals as goal

pub returns : goal.returns
returns g c = λ codec reading faithful events are. runs_print codec reading g.S.Scripts.one g.S.Scripts.holds faithful events are
