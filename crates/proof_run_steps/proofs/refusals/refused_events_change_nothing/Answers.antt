use Rattle.run_defs.specs.Runs.{plain_world}
use Rattle.run_defs.specs.UnitRuns.{unit_world}
use Rattle.proof_run_steps.proofs.refusals.Runs.{refused_stays, start_back}
use Rattle.proof_run_steps.proofs.refusals.Started.{start_in_run}
use Rattle.proof_run_steps.proofs.refusals.refused_events_change_nothing.Goals as goal

pub returns-clause-run : goal.returns-clause-run
returns-clause-run c = λ reading event s. (refused_stays (plain_world reading) event s (λ is. start_in_run reading s)).it

pub returns-clause-units : goal.returns-clause-units
returns-clause-units c = λ codec answer event s started.
    (refused_stays (unit_world codec answer) event s (λ is. start_back (unit_world codec answer) s (started is))).it
