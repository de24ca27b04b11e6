-- A worked run: units start, a terminal is attached and arrives, and a handover to the other gNB is ordered.
use Rattle.std.specs.Prelude.{ℕ, false, List, [], ◌∷◌, Option, Some, None}
use Rattle.gnb_types.specs.declared.names.Gnb.TheVariants.{A, B}
use Rattle.gnb_types.specs.declared.names.NodeId.{NodeId}
use Rattle.gnb_types.specs.declared.names.NodeId.TheVariants.{CuCp}
use Rattle.gnb_types.specs.declared.names.SnBits.TheVariants.{Len12}
use Rattle.gnb_types.specs.declared.names.Dir.TheVariants.{Ul}
use Rattle.gnb_types.specs.declared.names.UeId.{UeId}
use Rattle.gnb_types.specs.declared.plans.Plan.{Plan}
use Rattle.message_types.specs.declared.rrc.Token.{Token}
use Rattle.scenario_text.specs.declared.event.Event.{Event}
use Rattle.scenario_text.specs.declared.event.Event.TheVariants as events
use Rattle.unit_defs.specs.Ways.{Message, Pdu, Load}
use Rattle.unit_defs.specs.Messages.{channel}
use Rattle.run_defs.specs.Written.{Written}
use Rattle.run_defs.specs.States.{State, new_state}
use Rattle.run_defs.specs.Runs.{Reading, plain_world}
use Rattle.proof_run_steps.specs.steps.Reached.{reached}
use Rattle.law_requests_act_once.specs.channel.Ends.{asking_at, answering_at}
use Rattle.proof_run_steps.specs.control.Control.{control_of}
use Rattle.law_requests_act_once.specs.run_channels.Reached.{kept_by}

abbrev pub owner : UeId
owner = record { 0 = 1 }

abbrev pub plan : Plan
plan = record { ue = owner; gnb = A; up = 1; du = 1; sn = Len12; bearers = 1; quota = 4 }

-- no octets are given from outside
abbrev pub no_reading : Reading
no_reading = record { message_fault = λ from to octets. None; is_item = λ link sn octets. false }

abbrev pub script : List Event
script =
    events.Start ∷ events.Pump ∷ events.Attach plan ∷ events.Pump ∷ events.Arrive owner ∷ events.Pump ∷ events.Air owner (record { 0 = 1 }) Ul
    ∷ events.Handover owner B 1 1 ∷ events.Pump ∷ []

-- the last instance that the first CU-CP gave to the second one, and the newest that this one took
abbrev pub instances_in : Option (State (Message Token) Token (Written (Load Pdu)) (Written Pdu)) → List ℕ
instances_in None = []
instances_in (Some s) =
    (asking_at (kept_by (control_of s) (CuCp A)) (channel 1 (CuCp B))).last
    ∷ (answering_at (kept_by (control_of s) (CuCp B)) (channel 1 (CuCp A))).newest ∷ []

abbrev pub worked : List Event → List ℕ
worked events = instances_in (reached (plain_world no_reading) events new_state)

abbrev pub expected : List ℕ
expected = 2 ∷ 2 ∷ []
