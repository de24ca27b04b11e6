-- The acts of a terminal along the steps of a run, the newest first.
use Rattle.std.specs.Prelude.{ℕ, ◌≡◌, true, false, ◌&&◌, ◌||◌, List, [], ◌∷◌, Some}
use Rattle.gnb_types.specs.declared.names.NodeId.{NodeId}
use Rattle.gnb_types.specs.declared.names.NodeId.TheVariants.{CuUp as up_id, Du as du_id, Ue}
use Rattle.gnb_types.specs.declared.names.UeId.{UeId}
use Rattle.gnb_types.specs.declared.names.BearerId.{BearerId}
use Rattle.gnb_types.specs.declared.keys.TunnelEnd.{TunnelEnd}
use Rattle.gnb_types.specs.declared.plans.Plan.{Plan}
use Rattle.gnb_types.specs.Orders.{tunnel_cmp}
use Rattle.tables.specs.Tables.{find, put}
use Rattle.message_types.specs.declared.rrc.Token.{Token}
use Rattle.scenario_text.specs.declared.event.Event.{Event}
use Rattle.unit_defs.specs.Ways.{Message, Load, Pdu, Put}
use Rattle.unit_defs.specs.Static.{cu_up_has_room, cu_up_has_teids, du_has_teids}
use Rattle.transport_defs.specs.declared.Item.{Item}
use Rattle.run_defs.specs.Lines.{RunLine}
use Rattle.run_defs.specs.Units.{Units, cu_up_of, du_of}
use Rattle.run_defs.specs.Written.{Written}
use Rattle.run_defs.specs.States.{new_state, goes, RunStep, was_attached}
use Rattle.run_defs.specs.Steps.{carried_out}
use Rattle.run_defs.specs.Conditions.{is_held_by_units, statically}
use Rattle.run_defs.specs.Runs.{Reading, plain_world}
use Rattle.proof_run_steps.specs.steps.Causes.{by_octets, by_octets_on, node_of, given_of, count_of, first_of}
use Rattle.proof_run_steps.specs.steps.IsOutcome.{IsDone, IsOutcome}
use Rattle.law_terminals_are_isolated.specs.run_projections.Units.{given_ue}
use Rattle.law_terminals_are_isolated.specs.own_steps.Own.{IsActed}
use Rattle.law_terminals_are_isolated.specs.own_events.Events.{RunState, RunOutcome}
use Rattle.law_terminals_are_isolated.specs.all_steps.Steps.{NoneFor}
use Rattle.law_terminals_are_isolated.specs.equal_projections.Cores.{IsOffered, IsTaken}
use Rattle.law_terminals_are_isolated.specs.equal_projections.States.{shared_but_room, IsTicked}
use Rattle.law_terminals_are_isolated.specs.step_consistency.Places.{Shared, shared_at, RunCause, Place, in_place}

-- ---- octets from outside that come to the terminal's own node

pub data Received : Type 0 where
  received_from : (from : NodeId) (octets : List ℕ) → Received
  received_on : (teid : ℕ) (octets : List ℕ) → Received

abbrev pub received_cause : UeId → Received → RunCause
received_cause ue (received_from from octets) = by_octets from (Ue ue.0) octets
received_cause ue (received_on teid octets) = by_octets_on (record { node = Ue ue.0; teid = teid }) octets

-- ---- the acts of a terminal: a unit's step, what the core puts and takes, and an item that is lost; a tick of a unit, which is everyone's;
-- that it is set up without messages; and octets that its own node drops

pub data TerminalAct : Type 0 where
  acts_by : (cause : RunCause) (shared : Shared) → TerminalAct
  is_offered : (bearer : BearerId) (packet : List ℕ) → TerminalAct
  is_taken : (from : NodeId) (message : Message Token) → TerminalAct
  is_lost : (end : TunnelEnd) (item : Item (Written (Load Pdu))) → TerminalAct
  ticks_at : (node : NodeId) (shared : Shared) → TerminalAct
  is_placed : (plan : Plan) (up du : Shared) → TerminalAct
  receives : (received : Received) → TerminalAct

-- of what is taken, nothing is said of its place
abbrev pub nowhere : Place
nowhere = record { items = []; pdus = []; number = 0 }

abbrev pub IsBare : TerminalAct → Type 0
IsBare (acts_by cause shared) = in_place nowhere cause ≡ cause
IsBare act = Unit {0}

-- ---- one act, from a state to the next

-- a unit makes a step for the terminal, with what stands in this place
pub record ActsItself (reading : Reading) (ue : UeId) (cause : RunCause) (place : Place) (s t : RunState) : Type 0 where
  pub event : Event
  pub outputs : List (Put (Message Token) (Written (Load Pdu)) (Written Pdu))
  pub units : Units (Message Token) Token
  pub lines : List (RunLine (Message Token))
  pub acted : IsActed (plain_world reading) event s (in_place place cause) outputs units
  pub done : IsDone outputs
  pub its : given_ue reading s.units (node_of (in_place place cause)) (given_of (in_place place cause)) ≡ Some ue
  pub goes_so : carried_out (plain_world reading) (node_of (in_place place cause)) (count_of (in_place place cause))
      (first_of (plain_world reading) (in_place place cause)) outputs units s ≡ goes lines t

-- an item of the terminal is lost
pub record IsLost (ue : UeId) (end : TunnelEnd) (item : Item (Written (Load Pdu))) (s t : RunState) : Type 0 where
  pub rest : List (Item (Written (Load Pdu)))
  pub found : find tunnel_cmp s.tunnels end ≡ Some (item ∷ rest)
  pub its : item.key.ue ≡ ue
  pub loses : t ≡ record s { tunnels = put tunnel_cmp s.tunnels end rest }

-- the terminal is set up without messages
pub record IsPlaced (ue : UeId) (plan : Plan) (s t : RunState) : Type 0 where
  pub its : plan.ue ≡ ue
  pub free : was_attached s plan.ue || is_held_by_units plan s.units ≡ false
  pub room : cu_up_has_room (cu_up_of s.units plan.gnb plan.up) plan ≡ true
  pub teids : cu_up_has_teids (cu_up_of s.units plan.gnb plan.up) plan && du_has_teids (du_of s.units plan.gnb plan.du) plan ≡ true
  pub sets_up : t ≡ statically plan s

-- the terminal's own node drops octets
pub record IsReceived (reading : Reading) (ue : UeId) (received : Received) (s t : RunState) : Type 0 where
  pub event : Event
  pub outputs : List (Put (Message Token) (Written (Load Pdu)) (Written Pdu))
  pub units : Units (Message Token) Token
  pub lines : List (RunLine (Message Token))
  pub acted : IsActed (plain_world reading) event s (received_cause ue received) outputs units
  pub done : IsDone outputs
  pub goes_so : carried_out (plain_world reading) (node_of (received_cause ue received)) (count_of (received_cause ue received))
      (first_of (plain_world reading) (received_cause ue received)) outputs units s ≡ goes lines t

-- After steps of any events, one after another, from the first state, the terminal's acts were these, the newest first; of the steps
-- between them none is the terminal's business.
pub data HasActed (reading : Reading) (ue : UeId) : List TerminalAct → RunState → Type 0 where
  not_yet : (acts : List TerminalAct) (s : RunState) → acts ≡ [] → s ≡ new_state → HasActed reading ue acts s
  by_others : (acts : List TerminalAct) (event : Event) (s t : RunState) (e : RunOutcome) (told : List (RunStep (Message Token)))
      → HasActed reading ue acts s → (made : IsOutcome (plain_world reading) event s e) → NoneFor reading event ue s e made → e ≡ goes told t
      → HasActed reading ue acts t
  by_itself : (acts more : List TerminalAct) (cause : RunCause) (place : Place) (s t : RunState) → HasActed reading ue more s
      → ActsItself reading ue cause place s t → acts ≡ acts_by cause (shared_at s.units (node_of (in_place place cause))) ∷ more
      → HasActed reading ue acts t
  by_offer : (acts more : List TerminalAct) (bearer : BearerId) (packet : List ℕ) (s t : RunState) → HasActed reading ue more s
      → IsOffered reading ue bearer packet s t → acts ≡ is_offered bearer packet ∷ more → HasActed reading ue acts t
  by_core : (acts more : List TerminalAct) (from : NodeId) (message : Message Token) (s t : RunState) → HasActed reading ue more s
      → IsTaken reading ue from message s t → acts ≡ is_taken from message ∷ more → HasActed reading ue acts t
  by_loss : (acts more : List TerminalAct) (end : TunnelEnd) (item : Item (Written (Load Pdu))) (s t : RunState) → HasActed reading ue more s
      → IsLost ue end item s t → acts ≡ is_lost end item ∷ more → HasActed reading ue acts t
  by_ticking : (acts more : List TerminalAct) (node : NodeId) (s t : RunState) → HasActed reading ue more s → IsTicked reading node s t
      → acts ≡ ticks_at node (shared_but_room s.units node) ∷ more → HasActed reading ue acts t
  by_static : (acts more : List TerminalAct) (plan : Plan) (s t : RunState) → HasActed reading ue more s → IsPlaced ue plan s t
      → acts ≡ is_placed plan (shared_but_room s.units (up_id plan.gnb plan.up)) (shared_but_room s.units (du_id plan.gnb plan.du)) ∷ more
      → HasActed reading ue acts t
  by_hearing : (acts more : List TerminalAct) (received : Received) (s t : RunState) → HasActed reading ue more s → IsReceived reading ue received s t
      → acts ≡ receives received ∷ more → HasActed reading ue acts t
