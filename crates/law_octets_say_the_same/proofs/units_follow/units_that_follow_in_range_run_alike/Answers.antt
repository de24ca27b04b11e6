use Rattle.law_octets_say_the_same.specs.units_follow.Ranges.{within}
use Rattle.law_octets_say_the_same.proofs.units_follow.Units.{runs_alike}
use Rattle.law_octets_say_the_same.proofs.units_follow.units_that_follow_in_range_run_alike.Goals as goal

pub returns : goal.returns
returns g c =
    λ codec answer stays follows events fits.
    runs_alike codec answer (within g.R.Ranges.records g.R.Ranges.core g.R.Ranges.input g.R.Ranges.packet g.R.Ranges.plan) stays follows events fits
