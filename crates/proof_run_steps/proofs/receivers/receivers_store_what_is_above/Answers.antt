use Rattle.std.specs.Prelude.{ℕ, List}
use Rattle.message_types.specs.declared.rrc.Token.{Token}
use Rattle.unit_defs.specs.Ways.{Message}
use Rattle.run_defs.specs.States.{new_state}
use Rattle.proof_run_steps.proofs.receivers.Placed.{first_ready}
use Rattle.proof_run_steps.proofs.receivers.Runs.{ready_later}
use Rattle.proof_run_steps.proofs.receivers.UnitRuns.{ready_later_by_units}
use Rattle.proof_run_steps.proofs.receivers.receivers_store_what_is_above.Goals as goal

pub returns-clause-run : goal.returns-clause-run
returns-clause-run c = λ reading events t is. ready_later reading events new_state t is (first_ready (Message Token) Token)

pub returns-clause-on : goal.returns-clause-on
returns-clause-on c = λ reading events s t p is. ready_later reading events s t is p

pub returns-clause-units : goal.returns-clause-units
returns-clause-units c = λ codec events t is. ready_later_by_units codec events new_state t is (first_ready (List ℕ) (List ℕ))
