-- What the core does for a terminal: it puts a packet that is offered, and takes a message.
use Rattle.std.specs.Prelude.{ℕ, ◌≡◌, false, List, Some, None}
use Rattle.gnb_types.specs.declared.names.NodeId.{NodeId}
use Rattle.gnb_types.specs.declared.names.NodeId.TheVariants.{Core}
use Rattle.gnb_types.specs.declared.names.UeId.{UeId}
use Rattle.gnb_types.specs.declared.names.BearerId.{BearerId}
use Rattle.gnb_types.specs.declared.names.Dir.TheVariants.{Dl}
use Rattle.gnb_types.specs.Orders.{ue_cmp}
use Rattle.tables.specs.Tables.{find}
use Rattle.message_types.specs.declared.rrc.Token.{Token}
use Rattle.unit_defs.specs.Ways.{Message, Load, Pdu, Put}
use Rattle.unit_defs.specs.Messages.{teid_of}
use Rattle.unit_defs.specs.Core.{CorePath, CoreRecord}
use Rattle.transport_defs.specs.declared.ControlMessage.{ControlMessage}
use Rattle.transport_defs.specs.Links.{control_message}
use Rattle.run_defs.specs.Lines.{RunLine}
use Rattle.run_defs.specs.Written.{Written}
use Rattle.run_defs.specs.States.{goes, ◌next◌, Within, core_stepped, control_message_for, sn_of, entity}
use Rattle.run_defs.specs.Steps.{check_spans, put_on_tunnel, put_out_all, too_many_control_messages}
use Rattle.run_defs.specs.Events.{offered, landed_as}
use Rattle.run_defs.specs.Runs.{Reading, plain_world}
use Rattle.law_terminals_are_isolated.specs.projections.Projections.{message_ue}
use Rattle.law_terminals_are_isolated.specs.own_events.Events.{RunState}

abbrev pub RunWithin : Type 0
RunWithin = Within (Message Token) Token (Written (Load Pdu)) (Written Pdu)

-- the core puts a packet that is offered, on the path of its terminal; and what it does with a message
abbrev pub core_offers : Reading → UeId → BearerId → List ℕ → CorePath → RunState → RunWithin
core_offers reading ue bearer packet path s =
    let world = plain_world reading in
    put_on_tunnel world (record { node = path.up; teid = teid_of path.n3 bearer })
    (record { key = entity ue bearer Dl; count = None; content = world.lay_n3 (teid_of path.n3 bearer) packet })
    (offered world (entity ue bearer Dl) s) next check_spans

abbrev pub core_does : Reading → ℕ → ControlMessage (Message Token) → List (Put (Message Token) (Written (Load Pdu)) (Written Pdu)) → CoreRecord (Message Token) Token
    → RunState → RunWithin
core_does reading number l outputs core s =
    let world = plain_world reading in
    landed_as world number l (record s { core = core }) next put_out_all world Core None outputs next check_spans

-- the core puts a packet that is offered at the terminal
pub record IsOffered (reading : Reading) (ue : UeId) (bearer : BearerId) (packet : List ℕ) (s t : RunState) : Type 0 where
  pub path : CorePath
  pub lines : List (RunLine (Message Token))
  pub found : find ue_cmp s.core.paths ue ≡ Some path
  pub goes_so : core_offers reading ue bearer packet path s ≡ goes lines t

-- the core takes a message of the terminal
pub record IsTaken (reading : Reading) (ue : UeId) (from : NodeId) (message : Message Token) (s t : RunState) : Type 0 where
  pub number : ℕ
  pub owner : ℕ
  pub outputs : List (Put (Message Token) (Written (Load Pdu)) (Written Pdu))
  pub core : CoreRecord (Message Token) Token
  pub lines : List (RunLine (Message Token))
  pub found : control_message s.bag number ≡ Some (record { from = from; to = Core; ue = owner; message = message })
  pub its : message_ue from message ≡ ue
  pub answers : (plain_world reading).core_answer (sn_of s) s.core (control_message_for from message) ≡ core_stepped outputs core
  pub few : too_many_control_messages (plain_world reading) outputs s ≡ false
  pub goes_so : core_does reading number (record { from = from; to = Core; ue = owner; message = message }) outputs core s ≡ goes lines t
