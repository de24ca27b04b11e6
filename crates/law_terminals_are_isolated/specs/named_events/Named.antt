-- The terminal that an event is for, in a state: the one that it names, or whose item or control message is taken.
use Rattle.std.specs.Prelude.{ℕ, Option, Some, None}
use Rattle.std.specs.Ordering.{nat_cmp}
use Rattle.gnb_types.specs.declared.names.NodeId.{NodeId}
use Rattle.gnb_types.specs.declared.names.NodeId.TheVariants.{CuUp, Du, Ue}
use Rattle.gnb_types.specs.declared.names.UeId.{UeId}
use Rattle.gnb_types.specs.declared.plans.Plan.{Plan}
use Rattle.gnb_types.specs.Orders.{ue_cmp}
use Rattle.tables.specs.Tables.{find}
use Rattle.message_types.specs.declared.rrc.Token.{Token}
use Rattle.scenario_text.specs.declared.event.Event.{Event}
use Rattle.scenario_text.specs.declared.event.Event.TheVariants as events
use Rattle.unit_defs.specs.Ways.{Message}
use Rattle.transport_defs.specs.declared.ControlMessage.{ControlMessage}
use Rattle.transport_defs.specs.Links.{control_message}
use Rattle.run_defs.specs.Units.{Units, cu_up_of, du_of}
use Rattle.law_terminals_are_isolated.specs.projections.Projections.{message_ue}
use Rattle.law_terminals_are_isolated.specs.cu_up_projection.CuUps.{tunnel_ue as up_tunnel_ue}
use Rattle.law_terminals_are_isolated.specs.du_projection.Dus.{tunnel_ue as du_tunnel_ue}
use Rattle.law_terminals_are_isolated.specs.own_events.Events.{RunState}

-- whose an open TEID is
abbrev pub teid_ue : Units (Message Token) Token → NodeId → ℕ → Option UeId
teid_ue units (CuUp gnb number) teid = up_tunnel_ue (find nat_cmp (cu_up_of units gnb number).tunnels teid)
teid_ue units (Du gnb number) teid = du_tunnel_ue (find nat_cmp (du_of units gnb number).tunnels teid)
teid_ue units node teid = None

-- a terminal takes what is for itself
abbrev pub taker_ue : NodeId → ControlMessage (Message Token) → UeId
taker_ue (Ue ue) l = record { 0 = ue }
taker_ue node l = message_ue l.from l.message

abbrev pub control_message_ue : Option (ControlMessage (Message Token)) → Option UeId
control_message_ue None = None
control_message_ue (Some l) = Some (taker_ue l.to l)

-- a handover is that of the plan that is kept
abbrev pub planned_ue : UeId → Option Plan → UeId
planned_ue ue None = ue
planned_ue ue (Some plan) = plan.ue

-- of further events nothing is said
abbrev pub event_ue : RunState → Event → Option UeId
event_ue s (events.Attach plan) = Some plan.ue
event_ue s (events.Offer ue bearer dir packet) = Some ue
event_ue s (events.Get node teid) = teid_ue s.units node teid
event_ue s (events.Air ue bearer dir) = Some ue
event_ue s (events.Ack ue bearer dir) = Some ue
event_ue s (events.Give number) = control_message_ue (control_message s.bag number)
event_ue s (events.Poll ue bearer) = Some ue
event_ue s (events.Fail ue) = Some ue
event_ue s (events.Arrive ue) = Some ue
event_ue s (events.Return ue) = Some ue
event_ue s (events.Handover ue gnb up du) = Some (planned_ue ue (find ue_cmp s.plans ue))
event_ue s (events.Cancel ue) = Some ue
event_ue s (events.Release ue) = Some ue
event_ue s (events.Ask ue bearer) = Some ue
event_ue s event = None
