use Rattle.std.specs.Prelude.{ℕ, List}
use Rattle.message_types.specs.declared.rrc.Token.{Token}
use Rattle.unit_defs.specs.Ways.{Message}
use Rattle.run_defs.specs.States.{new_state}
use Rattle.law_tunnels_are_owned.proofs.tunnel_owners.Placed.{first_owned}
use Rattle.law_tunnels_are_owned.proofs.tunnel_owners.Runs.{owned_later}
use Rattle.law_tunnels_are_owned.proofs.tunnel_owners.UnitRuns.{owned_later_by_units}
use Rattle.law_tunnels_are_owned.proofs.tunnel_owners.tunnels_have_owners.Goals as goal

pub returns-clause-run : goal.returns-clause-run
returns-clause-run c = λ reading events t is. owned_later reading events new_state t is (first_owned (Message Token) Token)

pub returns-clause-on : goal.returns-clause-on
returns-clause-on c = λ reading events s t p is. owned_later reading events s t is p

pub returns-clause-units : goal.returns-clause-units
returns-clause-units c = λ codec events t is. owned_later_by_units codec events new_state t is (first_owned (List ℕ) (List ℕ))
