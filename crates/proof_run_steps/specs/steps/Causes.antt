-- Why a unit makes a step: what it is given, which item or message it takes, and what else changes before its outputs are put.
use Rattle.std.specs.Prelude.{ℕ, ◌≡◌, ◌==◌, true, false, List, ◌∷◌, Option, Some, None}
use Rattle.gnb_types.specs.declared.names.Gnb.{Gnb}
use Rattle.gnb_types.specs.declared.names.NodeId.{NodeId}
use Rattle.gnb_types.specs.declared.names.NodeId.TheVariants.{CuCp, Ue}
use Rattle.gnb_types.specs.declared.names.UeId.{UeId}
use Rattle.gnb_types.specs.declared.names.BearerId.{BearerId}
use Rattle.gnb_types.specs.declared.names.Dir.TheVariants.{Ul}
use Rattle.gnb_types.specs.declared.keys.TunnelEnd.{TunnelEnd}
use Rattle.gnb_types.specs.declared.keys.EntityKey.{EntityKey}
use Rattle.gnb_types.specs.declared.plans.Plan.{Plan}
use Rattle.gnb_types.specs.declared.inputs.Order.{Order}
use Rattle.gnb_types.specs.declared.inputs.Order.TheVariants as orders
use Rattle.gnb_types.specs.Orders.{tunnel_cmp}
use Rattle.tables.specs.Tables.{find}
use Rattle.scenario_text.specs.declared.event.Event.{Event}
use Rattle.scenario_text.specs.declared.event.Event.TheVariants as events
use Rattle.transport_defs.specs.declared.Item.{Item}
use Rattle.transport_defs.specs.declared.ControlMessage.{ControlMessage}
use Rattle.transport_defs.specs.Links.{control_message, nth}
use Rattle.run_defs.specs.States.{State, Given, control_message_for, item_for, carried_for, confirmed_for, offer_for, tick_for, order_for, octets_from, octets_on, World, goes_on, Within, entity, was_attached, has_bearer, radio_of}
use Rattle.run_defs.specs.Conditions.{serving_gnb, ready_home, receiver_of, sender_of, takes_control_messages}
use Rattle.run_defs.specs.Events.{with_terminal, offered, taken_off, carried_off, confirmed_off, landed_as, leaves}

pub data Cause (M L P : Type 0) : Type 0 where
  -- nothing is taken
  by_order : (node : NodeId) (order : Order) → Cause M L P
  by_tick : (node : NodeId) → Cause M L P
  by_octets : (from to : NodeId) (octets : List ℕ) → Cause M L P
  by_octets_on : (end : TunnelEnd) (octets : List ℕ) → Cause M L P
  -- a terminal comes, and goes
  by_attach : (plan : Plan) → Cause M L P
  by_release : (gnb : Gnb) (ue : UeId) → Cause M L P
  -- a packet is offered at its terminal
  by_offer : (ue : UeId) (bearer : BearerId) (packet : List ℕ) → Cause M L P
  -- the oldest item of a tunnel; of a radio the oldest that is uncarried, or unconfirmed; a control message
  by_item : (end : TunnelEnd) (item : Item L) (rest : List (Item L)) → Cause M L P
  by_air : (key : EntityKey) (home : NodeId) (item : Item P) → Cause M L P
  by_ack : (key : EntityKey) (home : NodeId) (item : Item P) (rest : List (Item P)) → Cause M L P
  by_control_message : (number : ℕ) (control_message : ControlMessage M) (to : NodeId) → Cause M L P

-- who makes the step
abbrev pub node_of : {M L P : Type 0} → Cause M L P → NodeId
node_of (by_order node order) = node
node_of (by_tick node) = node
node_of (by_octets from to octets) = to
node_of (by_octets_on end octets) = end.node
node_of (by_attach plan) = CuCp plan.gnb
node_of (by_release gnb ue) = CuCp gnb
node_of (by_offer ue bearer packet) = Ue ue.0
node_of (by_item end item rest) = end.node
node_of (by_air key home item) = receiver_of key home
node_of (by_ack key home item rest) = sender_of key home
node_of (by_control_message number l to) = to

abbrev pub given_of : {M L P : Type 0} → Cause M L P → Given M L P
given_of (by_order node order) = order_for order
given_of (by_tick node) = tick_for
given_of (by_octets from to octets) = octets_from from octets
given_of (by_octets_on end octets) = octets_on end.teid octets
given_of (by_attach plan) = order_for (orders.Attach plan)
given_of (by_release gnb ue) = order_for (orders.Release ue)
given_of (by_offer ue bearer packet) = offer_for ue bearer packet
given_of (by_item end item rest) = item_for end.teid item
given_of (by_air key home item) = carried_for item
given_of (by_ack key home item rest) = confirmed_for item
given_of (by_control_message number l to) = control_message_for l.from l.message

-- the COUNT beside the item that is taken
abbrev pub count_of : {M L P : Type 0} → Cause M L P → Option ℕ
count_of (by_item end item rest) = item.count
count_of (by_air key home item) = item.count
count_of (by_ack key home item rest) = item.count
count_of cause = None

-- what changes before the outputs are put
abbrev pub first_of : {M C L P : Type 0} → World M C L P → Cause M L P → State M C L P → Within M C L P
first_of world (by_attach plan) s = with_terminal world plan s
first_of world (by_release gnb ue) s = leaves world ue s
first_of world (by_offer ue bearer packet) s = goes_on (offered world (entity ue bearer Ul) s)
first_of world (by_item end item rest) s = taken_off world end item rest s
first_of world (by_air key home item) s = carried_off world key item s
first_of world (by_ack key home item rest) s = confirmed_off world key rest s
first_of world (by_control_message number l to) s = landed_as world number l s
first_of world cause s = goes_on s

-- a terminal comes by its own cause alone
abbrev pub IsNoAttach : Order → Type 0
IsNoAttach (orders.Attach plan) = ⊥
IsNoAttach order = Unit {0}

-- what is taken stands there, and a terminal's events are those of the script
abbrev pub Stands : {M C L P : Type 0} → Event → State M C L P → Cause M L P → Type 0
Stands event s (by_order node order) = IsNoAttach order
Stands event s (by_attach plan) = (event ≡ events.Attach plan) × (was_attached s plan.ue ≡ false)
Stands event s (by_release gnb ue) = (event ≡ events.Release ue) × (gnb ≡ serving_gnb s ue)
Stands event s (by_offer ue bearer packet) = (event ≡ events.Offer ue bearer Ul packet) × (has_bearer s ue bearer ≡ true)
Stands event s (by_item end item rest) = find tunnel_cmp s.tunnels end ≡ Some (item ∷ rest)
Stands event s (by_air key home item) =
    (ready_home s key.ue ≡ Some home) × (nth (radio_of s key).items (radio_of s key).carried ≡ Some item)
Stands event s (by_ack key home item rest) =
    (ready_home s key.ue ≡ Some home) × ((radio_of s key).items ≡ item ∷ rest) × ((radio_of s key).carried == 0 ≡ false)
Stands event s (by_control_message number l to) = (control_message s.bag number ≡ Some l) × (l.to ≡ to) × (takes_control_messages s to ≡ true)
Stands event s cause = Unit {0}
