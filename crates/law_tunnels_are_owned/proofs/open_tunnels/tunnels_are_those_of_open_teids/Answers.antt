use Rattle.std.proofs.Common.{ℕ, List}
use Rattle.message_types.specs.declared.rrc.Token.{Token}
use Rattle.unit_defs.specs.Ways.{Message, Load, Pdu}
use Rattle.run_defs.specs.Written.{Written}
use Rattle.run_defs.specs.States.{new_state}
use Rattle.law_tunnels_are_owned.proofs.open_tunnels.UnitRuns.{stand_where_open_by_units}
use Rattle.law_tunnels_are_owned.proofs.open_tunnels.Runs.{stand_where_open, first_stands}
use Rattle.law_tunnels_are_owned.proofs.open_tunnels.tunnels_are_those_of_open_teids.Goals as goal

pub returns-clause-run : goal.returns-clause-run
returns-clause-run c = λ reading events t is.
    stand_where_open reading events new_state t (first_stands (Message Token) Token (Written (Load Pdu)) (Written Pdu)) is

pub returns-clause-on : goal.returns-clause-on
returns-clause-on c = λ reading events s t k is. stand_where_open reading events s t k is

pub returns-clause-units : goal.returns-clause-units
returns-clause-units c = λ codec events t is.
    stand_where_open_by_units codec events new_state t (first_stands (List ℕ) (List ℕ) (List ℕ) (List ℕ)) is
