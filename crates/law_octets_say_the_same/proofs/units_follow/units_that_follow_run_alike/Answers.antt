use Rattle.std.proofs.Common.{ap}
use Rattle.run_defs.specs.UnitRuns.{Meaning, UnitRun}
use Rattle.law_octets_say_the_same.proofs.units_follow.units_that_follow_run_alike.Goals as goal

pub returns : goal.returns
returns c = λ codec answer same events.
    ap (λ (m : Meaning). UnitRun codec m events) (λ i records node input. same records node input i)
