use Rattle.proof_run_steps.proofs.teids.Runs.{given_once}
use Rattle.proof_run_steps.proofs.teids.UnitRuns.{given_once_by_units}
use Rattle.proof_run_steps.proofs.teids.a_teid_is_given_once.Goals as goal

pub returns-clause-run : goal.returns-clause-run
returns-clause-run c = λ reading events s t is. given_once reading events s t is

pub returns-clause-units : goal.returns-clause-units
returns-clause-units c = λ codec events s t is. given_once_by_units codec events s t is
