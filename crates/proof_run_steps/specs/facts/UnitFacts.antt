-- The same facts of `Run`, told of each unit by itself, and of items and PDUs as what they say.
use Rattle.std.specs.Prelude.{ℕ, ◌≡◌, true, List, Option, Some, None}
use Rattle.gnb_types.specs.declared.names.Gnb.{Gnb}
use Rattle.gnb_types.specs.declared.names.NodeId.{NodeId}
use Rattle.gnb_types.specs.declared.names.NodeId.TheVariants.{CuCp, CuUp as up_id, Du as du_id, Core, Ue}
use Rattle.gnb_types.specs.declared.names.SnBits.{SnBits}
use Rattle.gnb_types.specs.declared.names.UeId.{UeId}
use Rattle.gnb_types.specs.declared.names.BearerId.{BearerId}
use Rattle.gnb_types.specs.declared.names.Dir.TheVariants.{Dl}
use Rattle.gnb_types.specs.declared.keys.TunnelEnd.{TunnelEnd}
use Rattle.gnb_types.specs.declared.keys.EntityKey.{EntityKey}
use Rattle.gnb_types.specs.declared.plans.Plan.{Plan}
use Rattle.gnb_types.specs.declared.plans.Tunnel.{Tunnel}
use Rattle.gnb_types.specs.Orders.{ue_cmp}
use Rattle.message_types.specs.declared.rrc.Token.{Token}
use Rattle.tables.specs.Tables.{find, put}
use Rattle.unit_defs.specs.Ways.{Message, Pdu, Load, fresh, Input, control_input, packet_input, radio_input, confirm_input, Answer, gives, spent}
use Rattle.unit_defs.specs.Messages.{teid_of}
use Rattle.unit_defs.specs.CuUpRecords.{CuUp}
use Rattle.unit_defs.specs.CuUp.{new_cu_up, cu_up_acts}
use Rattle.unit_defs.specs.Du.{Du, new_du, du_acts}
use Rattle.unit_defs.specs.Ue.{UeNode, new_ue, placed, ue_acts}
use Rattle.unit_defs.specs.CuCpRecords.{CuCpRecord, new_cu_cp}
use Rattle.unit_defs.specs.CuCp.{cu_cp_acts}
use Rattle.unit_defs.specs.Core.{CorePath, CoreRecord, new_core, core_acts}
use Rattle.unit_defs.specs.Static.{cu_up_has_room, cu_up_has_teids, du_has_teids, cu_up_placed, du_placed, cu_cp_placed, cu_up_set_up, du_set_up, cu_cp_set_up}
use Rattle.unit_defs.specs.octet_defs.Writing.{pdu_octets, load_octets, written_load}
use Rattle.transport_defs.specs.declared.Item.{Item}
use Rattle.transport_defs.specs.declared.ControlMessage.{ControlMessage}
use Rattle.run_defs.specs.Units.{Units, cu_cp_of, cu_up_of, du_of, ue_of}
use Rattle.run_defs.specs.States.{entity}
use Rattle.run_defs.specs.Written.{Written}
use Rattle.run_defs.specs.Runs.{plain_way, taken_of, content_of}
use Rattle.proof_run_steps.specs.facts.Facts.{Facts, PutsFit}

-- the unit is named by its gNB and its number
pub record UnitFacts : Type 1 where
  pub up : Gnb → ℕ → CuUp (Message Token) Token → Type 0
  pub du : Gnb → ℕ → Du (Message Token) Token → Type 0
  pub cp : Gnb → CuCpRecord (Message Token) Token → Type 0
  pub ue : UeId → UeNode → Type 0
  pub core : CoreRecord (Message Token) Token → Type 0
  pub control_message : ControlMessage (Message Token) → Type 0
  pub puts_on : NodeId → TunnelEnd → Item (Load Pdu) → Type 0
  pub puts_on_air : NodeId → EntityKey → Item Pdu → Type 0
  pub on_tunnel : TunnelEnd → Item (Load Pdu) → Type 0
  pub on_radio : EntityKey → Item Pdu → Type 0
  pub stands : (node : NodeId) (end : TunnelEnd) (item : Item (Load Pdu)) → puts_on node end item → on_tunnel end item
  pub stands_on_air : (node : NodeId) (key : EntityKey) (item : Item Pdu) → puts_on_air node key item → on_radio key item

-- items as they stand on links, with their octets: those of what they say, with numbers of one of the two lengths
abbrev pub said_item : {X : Type 0} → Item (Written X) → Item X
said_item item = record { key = item.key; count = item.count; content = item.content.says }

abbrev pub HasOctets : ℕ → Item (Written (Load Pdu)) → Type 0
HasOctets teid item = (sn : SnBits) × (item.content.octets ≡ load_octets teid (written_load sn item.content.says))

abbrev pub HasPduOctets : Item (Written Pdu) → Type 0
HasPduOctets item = (sn : SnBits) × (item.content.octets ≡ pdu_octets sn item.content.says)

module _ (facts : UnitFacts) where
  abbrev pub OfUnits : Units (Message Token) Token → Type 0
  OfUnits units =
      ((gnb : Gnb) (number : ℕ) → facts.up gnb number (cu_up_of units gnb number))
      × ((gnb : Gnb) (number : ℕ) → facts.du gnb number (du_of units gnb number))
      × ((gnb : Gnb) → facts.cp gnb (cu_cp_of units gnb))
      × ((ue : UeId) (x : UeNode) → ue_of units ue ≡ Some x → facts.ue ue x)

  abbrev pub as_facts : Facts (Message Token) Token (Load Pdu) Pdu
  as_facts = record {
    units = OfUnits;
    core = facts.core;
    control_message = facts.control_message;
    puts_on = facts.puts_on;
    puts_on_air = facts.puts_on_air;
    on_tunnel = facts.on_tunnel;
    on_radio = facts.on_radio;
    stands = facts.stands;
    stands_on_air = facts.stands_on_air;
    counted = Unit {0};
  }

  abbrev pub written_facts : Facts (Message Token) Token (Written (Load Pdu)) (Written Pdu)
  written_facts = record {
    units = OfUnits;
    core = facts.core;
    control_message = facts.control_message;
    puts_on = λ node end item. facts.puts_on node end (said_item item) × HasOctets end.teid item;
    puts_on_air = λ node key item. facts.puts_on_air node key (said_item item) × HasPduOctets item;
    on_tunnel = λ end item. facts.on_tunnel end (said_item item) × HasOctets end.teid item;
    on_radio = λ key item. facts.on_radio key (said_item item) × HasPduOctets item;
    stands = λ node end item p. (facts.stands node end (said_item item) p.0, p.1);
    stands_on_air = λ node key item p. (facts.stands_on_air node key (said_item item) p.0, p.1);
    counted = Unit {0};
  }

  -- what a unit is given has its fact, where this COUNT stands beside the item
  abbrev pub InputFits : NodeId → Option ℕ → Input Token Pdu → Type 0
  InputFits node taken (control_input from message) = (ue : ℕ) × facts.control_message (record { from = from; to = node; ue = ue; message = message })
  InputFits node taken (packet_input teid item) =
      (load : Load Pdu) × (item ≡ taken_of load)
      × ((key : EntityKey) × facts.on_tunnel (record { node = node; teid = teid }) (record { key = key; count = taken; content = load }))
  InputFits node taken (radio_input ue bearer dir pdu content) =
      (content ≡ content_of pdu)
      × ((key : EntityKey) × facts.on_radio key (record { key = entity ue bearer dir; count = taken; content = pdu }))
  InputFits node taken (confirm_input ue bearer dir pdu content) =
      (content ≡ content_of pdu)
      × ((key : EntityKey) × facts.on_radio key (record { key = entity ue bearer dir; count = taken; content = pdu }))
  InputFits node taken input = Unit {0}

  -- what it puts, and what it keeps then
  abbrev pub AnswerFits : {R : Type 0} → (R → Type 0) → NodeId → Option ℕ → Answer (Message Token) Pdu R → Type 0
  AnswerFits Q node taken (gives outputs after) = Q after × PutsFit as_facts node taken outputs
  AnswerFits Q node taken (spent counter) = Unit {0}

  -- ---- what is asked of each unit: it holds at first, goes on to hold, and holds where a terminal comes or is set up without messages

  pub record UnitsKeep : Type 0 where
    pub ups_act : (gnb : Gnb) (number : ℕ) (r : CuUp (Message Token) Token) (taken : Option ℕ) (input : Input Token Pdu)
        → facts.up gnb number r → InputFits (up_id gnb number) taken input
        → AnswerFits (facts.up gnb number) (up_id gnb number) taken (cu_up_acts plain_way r input)
    pub dus_act : (gnb : Gnb) (number : ℕ) (r : Du (Message Token) Token) (taken : Option ℕ) (input : Input Token Pdu)
        → facts.du gnb number r → InputFits (du_id gnb number) taken input
        → AnswerFits (facts.du gnb number) (du_id gnb number) taken (du_acts plain_way r input)
    pub cps_act : (gnb : Gnb) (r : CuCpRecord (Message Token) Token) (taken : Option ℕ) (input : Input Token Pdu)
        → facts.cp gnb r → InputFits (CuCp gnb) taken input → AnswerFits (facts.cp gnb) (CuCp gnb) taken (cu_cp_acts plain_way r input)
    pub ues_act : (ue : UeId) (x : UeNode) (taken : Option ℕ) (input : Input Token Pdu)
        → facts.ue ue x → InputFits (Ue ue.0) taken input → AnswerFits (facts.ue ue) (Ue ue.0) taken (ue_acts plain_way x input)
    pub core_acts : (r : CoreRecord (Message Token) Token) (from : NodeId) (message : Message Token) → facts.core r
        → InputFits Core None (control_input from message) → AnswerFits facts.core Core None (core_acts plain_way r from message)
    pub lays : (r : CoreRecord (Message Token) Token) (ue : UeId) (bearer : BearerId) (p : List ℕ) (path : CorePath) → facts.core r
        → find ue_cmp r.paths ue ≡ Some path
        → facts.puts_on Core (record { node = path.up; teid = teid_of path.n3 bearer })
        (record { key = entity ue bearer Dl; count = None; content = fresh p })
    pub comes : (plan : Plan) → facts.ue plan.ue (new_ue plan)
    pub places_ue : (plan : Plan) → facts.ue plan.ue (placed (new_ue plan))
    pub places_up : (r : CuUp (Message Token) Token) (plan : Plan) (downlink : ℕ) → cu_up_has_room r plan ≡ true → cu_up_has_teids r plan ≡ true
        → facts.up plan.gnb plan.up r → facts.up plan.gnb plan.up (cu_up_placed r plan downlink)
    pub places_du : (r : Du (Message Token) Token) (plan : Plan) (uplink : ℕ) → du_has_teids r plan ≡ true
        → facts.du plan.gnb plan.du r → facts.du plan.gnb plan.du (du_placed r plan uplink)
    pub places_cp : (r : CuCpRecord (Message Token) Token) (plan : Plan) → facts.cp plan.gnb r → facts.cp plan.gnb (cu_cp_placed r plan)
    pub places_path : (r : CoreRecord (Message Token) Token) (plan : Plan) (n3 : List Tunnel) → facts.core r
        → facts.core (record r { paths = put ue_cmp r.paths plan.ue (record { up = up_id plan.gnb plan.up; n3 = n3 }) })
    pub sets_up : (gnb : Gnb) (number : ℕ) (r : CuUp (Message Token) Token) → facts.up gnb number r → facts.up gnb number (cu_up_set_up r)
    pub sets_du : (gnb : Gnb) (number : ℕ) (r : Du (Message Token) Token) → facts.du gnb number r → facts.du gnb number (du_set_up r)
    pub sets_cp : (gnb : Gnb) (r : CuCpRecord (Message Token) Token) → facts.cp gnb r → facts.cp gnb (cu_cp_set_up r)
    pub first_up : (gnb : Gnb) (number : ℕ) → facts.up gnb number (new_cu_up gnb number)
    pub first_du : (gnb : Gnb) (number : ℕ) → facts.du gnb number (new_du gnb number)
    pub first_cp : (gnb : Gnb) → facts.cp gnb (new_cu_cp gnb)
    pub first_core : facts.core new_core
