-- What an event of a run comes to: steps of units and of the core, and lines of no unit's step, one after another.
use Rattle.std.specs.Prelude.{ℕ, ◌≡◌, true, false, ◌||◌, ◌&&◌, List, [], ◌∷◌, Some, None}
use Rattle.std.specs.List.{AllByRecursion}
use Rattle.gnb_types.specs.declared.names.NodeId.{NodeId}
use Rattle.gnb_types.specs.declared.names.NodeId.TheVariants.{Core}
use Rattle.gnb_types.specs.declared.names.UeId.{UeId}
use Rattle.gnb_types.specs.declared.names.BearerId.{BearerId}
use Rattle.gnb_types.specs.declared.names.Dir.TheVariants.{Dl}
use Rattle.gnb_types.specs.declared.keys.TunnelEnd.{TunnelEnd}
use Rattle.gnb_types.specs.declared.keys.EntityKey.{EntityKey}
use Rattle.gnb_types.specs.declared.plans.Plan.{Plan}
use Rattle.gnb_types.specs.declared.reasons.HeldReason.{HeldReason}
use Rattle.gnb_types.specs.Orders.{ue_cmp, tunnel_cmp}
use Rattle.tables.specs.Tables.{find, put}
use Rattle.scenario_text.specs.declared.event.Event.{Event}
use Rattle.scenario_text.specs.declared.event.Event.TheVariants as events
use Rattle.unit_defs.specs.Ways.{Put, held, no}
use Rattle.unit_defs.specs.Messages.{teid_of}
use Rattle.unit_defs.specs.Core.{CoreRecord, CorePath}
use Rattle.unit_defs.specs.Static.{cu_up_has_room, cu_up_has_teids, du_has_teids}
use Rattle.transport_defs.specs.declared.Item.{Item}
use Rattle.transport_defs.specs.declared.ControlMessage.{ControlMessage}
use Rattle.transport_defs.specs.Links.{control_message, landed}
use Rattle.run_defs.specs.Lines.{RunLine, lost_items, lost_message, held_at, is_quiet, is_busy, has_settled, has_not_settled, was_refused, tunnel_link, radio_link}
use Rattle.run_defs.specs.Units.{Units, cu_up_of, du_of}
use Rattle.run_defs.specs.States.{State, control_message_for, octets_from, stepped, core_stepped, World, Stop, goes, stops, ◌next◌, goes_on, Outcome, as_step, prints, entity, sn_of, was_attached}
use Rattle.run_defs.specs.Steps.{check_spans, put_on_tunnel, put_out_all, too_many_control_messages, carried_out}
use Rattle.run_defs.specs.Conditions.{statically, is_held_by_units, epoch_of, receiver_of}
use Rattle.run_defs.specs.Events.{offered, landed_as}
use Rattle.proof_run_steps.specs.steps.Causes.{Cause, node_of, given_of, count_of, first_of, Stands}

-- a unit neither holds its input nor refuses it
abbrev pub IsDone : {M L P : Type 0} → List (Put M L P) → Type 0
IsDone (held reason ∷ []) = ⊥
IsDone (no reason ∷ []) = ⊥
IsDone outputs = Unit {0}

-- a line that says nothing of links, units or packets
abbrev pub IsRemark : {M : Type 0} → RunLine M → Type 0
IsRemark (is_quiet ue bearer downlink uplink) = Unit {0}
IsRemark (is_busy ue bearer) = Unit {0}
IsRemark (has_settled rounds) = Unit {0}
IsRemark (has_not_settled rounds) = Unit {0}
IsRemark (was_refused reason) = Unit {0}
IsRemark line = ⊥

module _ {M C L P : Type 0} (world : World M C L P) (event : Event) where
  -- from a state such an outcome is made of steps
  pub data IsOutcome : State M C L P → Outcome M C L P → Type 0 where
    stays : (s : State M C L P) → IsOutcome s (goes_on s)
    ends : (s : State M C L P) (why : Stop) → IsOutcome s (stops [] why)
    then_made : (s : State M C L P) (e : Outcome M C L P) (more : State M C L P → Outcome M C L P)
        → IsOutcome s e → ((t : State M C L P) → IsOutcome t (more t)) → IsOutcome s (e next more)
    -- a terminal is set up without messages; a first start is marked
    sets_up : (s : State M C L P) (plan : Plan) → event ≡ events.Static plan
        → was_attached s plan.ue || is_held_by_units plan s.units ≡ false
        → cu_up_has_room (cu_up_of s.units plan.gnb plan.up) plan ≡ true
        → cu_up_has_teids (cu_up_of s.units plan.gnb plan.up) plan && du_has_teids (du_of s.units plan.gnb plan.du) plan ≡ true
        → IsOutcome s (goes_on (statically plan s))
    starts : (s : State M C L P) (e : Outcome M C L P) → IsOutcome (record s { started = true }) e → IsOutcome s e
    -- a unit makes its step, or holds the item at the head of its link
    acts : (s : State M C L P) (cause : Cause M L P) (outputs : List (Put M L P)) (units : Units M C) → Stands event s cause
        → world.answer (sn_of s) s.units (node_of cause) (given_of cause) ≡ stepped outputs units → IsDone outputs
        → too_many_control_messages world outputs s ≡ false
        → IsOutcome s (as_step (Some (node_of cause)) (carried_out world (node_of cause) (count_of cause) (first_of world cause) outputs units s))
    holds_item : (s : State M C L P) (end : TunnelEnd) (reason : HeldReason)
        → IsOutcome s (as_step (Some end.node) (goes (held_at (tunnel_link end) reason ∷ []) s))
    holds_pdu : (s : State M C L P) (key : EntityKey) (home : NodeId) (reason : HeldReason)
        → IsOutcome s (as_step (Some (receiver_of key home)) (goes (held_at (radio_link key (epoch_of s key.ue)) reason ∷ []) s))
    -- the core puts an offered packet; it takes a message, or octets from outside; a message lands at a terminal that takes none
    offers : (s : State M C L P) (ue : UeId) (bearer : BearerId) (packet : List ℕ) (path : CorePath)
        → event ≡ events.Offer ue bearer Dl packet → find ue_cmp s.core.paths ue ≡ Some path
        → IsOutcome s (as_step (Some Core) (put_on_tunnel world (record { node = path.up; teid = teid_of path.n3 bearer })
        (record { key = entity ue bearer Dl; count = None; content = world.lay_n3 (teid_of path.n3 bearer) packet })
        (offered world (entity ue bearer Dl) s) next check_spans))
    core_takes : (s : State M C L P) (number : ℕ) (l : ControlMessage M) (outputs : List (Put M L P)) (core : CoreRecord M C)
        → control_message s.bag number ≡ Some l → l.to ≡ Core
        → world.core_answer (sn_of s) s.core (control_message_for l.from l.message) ≡ core_stepped outputs core
        → too_many_control_messages world outputs s ≡ false
        → IsOutcome s (as_step (Some Core) (landed_as world number l (record s { core = core })
        next put_out_all world Core None outputs next check_spans))
    core_reads : (s : State M C L P) (from : NodeId) (octets : List ℕ) (outputs : List (Put M L P)) (core : CoreRecord M C)
        → world.core_answer (sn_of s) s.core (octets_from from octets) ≡ core_stepped outputs core
        → IsOutcome s (as_step (Some Core) (put_out_all world Core None outputs (record s { core = core }) next check_spans))
    lands : (s : State M C L P) (number : ℕ) (l : ControlMessage M) (to : NodeId) → control_message s.bag number ≡ Some l → l.to ≡ to
        → IsOutcome s (as_step (Some to) (landed_as world number l s))
    -- what is lost by an event, and lines that change nothing
    loses_control_message : (s : State M C L P) (number : ℕ) → IsOutcome s (prints (lost_message number ∷ []) (record s { bag = landed s.bag number }))
    loses_item : (s : State M C L P) (end : TunnelEnd) (item : Item L) (rest : List (Item L)) → find tunnel_cmp s.tunnels end ≡ Some (item ∷ rest)
        → IsOutcome s (prints (lost_items (tunnel_link end) 1 ∷ []) (record s { tunnels = put tunnel_cmp s.tunnels end rest }))
    remarks : (s : State M C L P) (lines : List (RunLine M)) → AllByRecursion IsRemark lines → IsOutcome s (prints lines s)
