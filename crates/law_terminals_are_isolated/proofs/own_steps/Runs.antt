-- In every state of every run links and nodes hold their own.
use Rattle.std.proofs.Common.{◌≡◌, List, Some}
use Rattle.message_types.specs.declared.rrc.Token.{Token}
use Rattle.scenario_text.specs.declared.event.Event.{Event}
use Rattle.unit_defs.specs.Ways.{Message, Pdu, Load}
use Rattle.run_defs.specs.Written.{Written}
use Rattle.run_defs.specs.States.{new_state}
use Rattle.run_defs.specs.Runs.{Reading, plain_world}
use Rattle.proof_run_steps.specs.steps.Reached.{reached}
use Rattle.law_tunnels_are_owned.proofs.open_tunnels.Runs.{first_stands, stand_where_open}
use Rattle.law_tunnels_are_owned.proofs.tunnel_owners.Placed.{first_owned}
use Rattle.law_tunnels_are_owned.proofs.tunnel_owners.Runs.{owned_later}
use Rattle.law_terminals_are_isolated.proofs.step_projections.Runs.{its_own}
use Rattle.proof_run_steps.proofs.law_run_links.Links.{first_own, own_later}
use Rattle.law_tunnels_are_owned.proofs.run_tunnels.Runs.{own_in_runs}
use Rattle.law_terminals_are_isolated.proofs.own_steps.Steps.{RunState, Sound}

pub sound_in_run : (reading : Reading) (events : List Event) (t : RunState) → reached (plain_world reading) events new_state ≡ Some t → Sound t
sound_in_run reading events t there = record {
  itself = its_own reading events t there;
  owned = owned_later reading events new_state t there (first_owned (Message Token) Token);
  standing = stand_where_open reading events new_state t (first_stands (Message Token) Token (Written (Load Pdu)) (Written Pdu)) there;
  tunnels = own_in_runs reading events t there;
  radios =
      own_later (Message Token) Token (Written (Load Pdu)) (Written Pdu) (plain_world reading) events new_state t
      (first_own (Message Token) Token (Written (Load Pdu)) (Written Pdu)) there;
}
