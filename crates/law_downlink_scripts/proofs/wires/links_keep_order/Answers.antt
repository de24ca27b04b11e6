use Rattle.run_defs.specs.Runs.{Run, plain_world}
use Rattle.run_defs.specs.UnitRuns.{UnitRun, unit_world}
use Rattle.law_downlink_scripts.proofs.wires.Runs.{wires}
use Rattle.law_downlink_scripts.proofs.wires.links_keep_order.Goals as goal

pub returns-clause-run : goal.returns-clause-run
unfolding Run
returns-clause-run c = λ reading events. wires (plain_world reading) events

pub returns-clause-units : goal.returns-clause-units
unfolding UnitRun
returns-clause-units c = λ codec answer events. wires (unit_world codec answer) events
