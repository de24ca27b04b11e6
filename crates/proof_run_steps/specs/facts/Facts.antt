-- What holds in every state of a run: a fact of the units, one of the core, one of each control message that was put, and one of each
-- item of a tunnel and of a radio; and what is asked of units and of the core that they go on to hold.
use Rattle.std.specs.Prelude.{ℕ, ◌≡◌, ◌≤◌, ◌+◌, true, false, ◌&&◌, List, length, Option, Some, None}
use Rattle.std.specs.List.{AllByRecursion}
use Rattle.gnb_types.specs.declared.names.NodeId.{NodeId}
use Rattle.gnb_types.specs.declared.names.NodeId.TheVariants.{CuUp, Core}
use Rattle.gnb_types.specs.declared.names.UeId.{UeId}
use Rattle.gnb_types.specs.declared.names.BearerId.{BearerId}
use Rattle.gnb_types.specs.declared.names.Dir.TheVariants.{Dl}
use Rattle.gnb_types.specs.declared.keys.TunnelEnd.{TunnelEnd}
use Rattle.gnb_types.specs.declared.keys.EntityKey.{EntityKey}
use Rattle.gnb_types.specs.declared.plans.Plan.{Plan}
use Rattle.gnb_types.specs.declared.plans.Tunnel.{Tunnel}
use Rattle.gnb_types.specs.Orders.{ue_cmp, tunnel_cmp}
use Rattle.tables.specs.Tables.{find, put}
use Rattle.unit_defs.specs.Ways.{Put, control, packet, radio}
use Rattle.unit_defs.specs.Messages.{teid_of}
use Rattle.unit_defs.specs.Core.{CorePath, CoreRecord}
use Rattle.unit_defs.specs.Static.{cu_up_has_room, cu_up_has_teids, du_has_teids}
use Rattle.unit_defs.specs.Ue.{new_ue}
use Rattle.transport_defs.specs.declared.Item.{Item}
use Rattle.transport_defs.specs.declared.ControlMessage.{ControlMessage}
use Rattle.transport_defs.specs.Links.{most_control_messages}
use Rattle.run_defs.specs.Units.{Units, cu_up_of, du_of, with_ue}
use Rattle.run_defs.specs.States.{State, Given, control_message_for, item_for, carried_for, confirmed_for, octets_from, Lengths, stepped, core_stepped, World, entity, radio_of}
use Rattle.run_defs.specs.Steps.{count_beside, count_control_messages}
use Rattle.run_defs.specs.Conditions.{is_held_by_units, units_placed, all_set_up}

pub record Facts (M C L P : Type 0) : Type 1 where
  pub units : Units M C → Type 0
  pub core : CoreRecord M C → Type 0
  pub control_message : ControlMessage M → Type 0
  -- of an item that a node puts, and of one that stands there
  pub puts_on : NodeId → TunnelEnd → Item L → Type 0
  pub puts_on_air : NodeId → EntityKey → Item P → Type 0
  pub on_tunnel : TunnelEnd → Item L → Type 0
  pub on_radio : EntityKey → Item P → Type 0
  pub stands : (node : NodeId) (end : TunnelEnd) (item : Item L) → puts_on node end item → on_tunnel end item
  pub stands_on_air : (node : NodeId) (key : EntityKey) (item : Item P) → puts_on_air node key item → on_radio key item
  -- control messages are counted: then the core puts none where it is given octets from outside
  pub counted : Type 0

module _ {M C L P : Type 0} (facts : Facts M C L P) where
  -- they hold in a state, in which so many more control messages may be put
  pub record HoldWith (more : ℕ) (s : State M C L P) : Type 0 where
    pub units : facts.units s.units
    pub core : facts.core s.core
    pub control_messages : AllByRecursion (λ (e : ℕ × ControlMessage M). facts.control_message e.1) s.bag.control_messages
    pub tunnels : (end : TunnelEnd) (items : List (Item L)) → find tunnel_cmp s.tunnels end ≡ Some items
        → AllByRecursion (facts.on_tunnel end) items
    pub radios : (key : EntityKey) → AllByRecursion (facts.on_radio key) (radio_of s key).items
    pub few : facts.counted → length s.bag.control_messages + more ≤ most_control_messages

  abbrev pub Hold : State M C L P → Type 0
  Hold s = HoldWith 0 s

  -- ---- what a node puts has its fact, where this COUNT stands beside the item that it took

  abbrev pub PutFits : NodeId → Option ℕ → Put M L P → Type 0
  PutFits node taken (control to ue message) = facts.control_message (record { from = node; to = to; ue = ue; message = message })
  PutFits node taken (packet to teid ue bearer dir tag load) =
      facts.puts_on node (record { node = to; teid = teid }) (record { key = entity ue bearer dir; count = count_beside tag taken; content = load })
  PutFits node taken (radio ue bearer dir epoch tag pdu) =
      facts.puts_on_air node (entity ue bearer dir) (record { key = entity ue bearer dir; count = count_beside tag taken; content = pdu })
  PutFits node taken output = Unit {0}

  abbrev pub PutsFit : NodeId → Option ℕ → List (Put M L P) → Type 0
  PutsFit node taken outputs = AllByRecursion (PutFits node taken) outputs

  -- what a node is given has its fact
  abbrev pub GivenFits : NodeId → Option ℕ → Given M L P → Type 0
  GivenFits node taken (control_message_for from message) = (ue : ℕ) × facts.control_message (record { from = from; to = node; ue = ue; message = message })
  GivenFits node taken (item_for teid item) = (taken ≡ item.count) × facts.on_tunnel (record { node = node; teid = teid }) item
  GivenFits node taken (carried_for item) = (taken ≡ item.count) × ((key : EntityKey) × facts.on_radio key item)
  GivenFits node taken (confirmed_for item) = (taken ≡ item.count) × ((key : EntityKey) × facts.on_radio key item)
  GivenFits node taken given = Unit {0}

-- ---- what is asked of units and of the core, of a terminal that comes, and of one that is set up without messages

pub record AreKept {M C L P : Type 0} (world : World M C L P) (facts : Facts M C L P) : Type 0 where
  pub answers : (lengths : Lengths) (u v : Units M C) (node : NodeId) (taken : Option ℕ) (given : Given M L P) (outputs : List (Put M L P))
      → facts.units u → GivenFits facts node taken given → world.answer lengths u node given ≡ stepped outputs v
      → facts.units v × PutsFit facts node taken outputs
  pub comes : (u : Units M C) (plan : Plan) → facts.units u → facts.units (with_ue u plan.ue (new_ue plan))
  pub placed : (u : Units M C) (plan : Plan) → is_held_by_units plan u ≡ false → cu_up_has_room (cu_up_of u plan.gnb plan.up) plan ≡ true
      → cu_up_has_teids (cu_up_of u plan.gnb plan.up) plan && du_has_teids (du_of u plan.gnb plan.du) plan ≡ true
      → facts.units u → facts.units (all_set_up (units_placed plan u))
  pub core_answers : (lengths : Lengths) (r q : CoreRecord M C) (given : Given M L P) (outputs : List (Put M L P)) → facts.core r
      → GivenFits facts Core None given → world.core_answer lengths r given ≡ core_stepped outputs q
      → facts.core q × PutsFit facts Core None outputs
  pub core_placed : (r : CoreRecord M C) (plan : Plan) (n3 : List Tunnel) → facts.core r
      → facts.core (record r { paths = put ue_cmp r.paths plan.ue (record { up = CuUp plan.gnb plan.up; n3 = n3 }) })
  pub lays : (r : CoreRecord M C) (ue : UeId) (bearer : BearerId) (p : List ℕ) (path : CorePath) → facts.core r
      → find ue_cmp r.paths ue ≡ Some path
      → facts.puts_on Core (record { node = path.up; teid = teid_of path.n3 bearer })
      (record { key = entity ue bearer Dl; count = None; content = world.lay_n3 (teid_of path.n3 bearer) p })
  pub silent : facts.counted → (lengths : Lengths) (r q : CoreRecord M C) (from : NodeId) (octets : List ℕ) (outputs : List (Put M L P))
      → world.core_answer lengths r (octets_from from octets) ≡ core_stepped outputs q → count_control_messages world outputs ≡ 0
