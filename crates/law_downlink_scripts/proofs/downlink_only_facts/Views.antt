-- Internal: what a state has of the downlink of one bearer, and when all of it is in order.
use Rattle.std.proofs.Common.{◌≡◌, ◌==◌, ℕ, ◌+◌, false, List, [], ◌∷◌, ◌++◌, length, map, Option, Some, None}
use Rattle.std.specs.List.{AllByRecursion}
use Rattle.gnb_types.specs.declared.names.Gnb.{Gnb}
use Rattle.gnb_types.specs.declared.names.NodeId.TheVariants.{CuUp as up_id, Du as du_id}
use Rattle.gnb_types.specs.declared.names.UeId.{UeId}
use Rattle.gnb_types.specs.declared.names.BearerId.{BearerId}
use Rattle.gnb_types.specs.declared.names.Dir.TheVariants.{Dl, Ul}
use Rattle.gnb_types.specs.declared.keys.TunnelEnd.{TunnelEnd}
use Rattle.gnb_types.specs.declared.plans.Plan.{Plan}
use Rattle.gnb_types.specs.Orders.{ue_cmp, bearer_cmp, tunnel_cmp}
use Rattle.tables.specs.Tables.{find}
use Rattle.message_types.specs.declared.rrc.Token.{Token}
use Rattle.unit_defs.specs.declared.UeState.TheVariants as ue_states
use Rattle.unit_defs.specs.Messages.{teid_of}
use Rattle.unit_defs.specs.Ways.{Message, Pdu, packet_pdu, Load, fresh, frame, status}
use Rattle.unit_defs.specs.CuUpRecords.{DownlinkTunnel}
use Rattle.unit_defs.specs.Ue.{UeNode, UeBearer}
use Rattle.unit_defs.specs.Core.{CorePath}
use Rattle.transport_defs.specs.declared.Item.{Item}
use Rattle.transport_defs.specs.Links.{Radio, silent}
use Rattle.run_defs.specs.Units.{Units, cu_up_of, du_of, ue_of}
use Rattle.run_defs.specs.Written.{Written}
use Rattle.run_defs.specs.States.{State, entity, radio_of}
use Rattle.proof_cu_up_orders.specs.context_orders.Orders.{CuUpModel, model_of as up_model_of}
use Rattle.proof_node_orders.specs.du_inputs.Changes.{DuModel, model_of as du_model_of}
use Rattle.law_downlink_scripts.specs.downlink_only_rows.DownlinkOnly.{serving, ends_of}

abbrev pub PlainState : Type 0
PlainState = State (Message Token) Token (Written (Load Pdu)) (Written Pdu)

abbrev pub PlainUnits : Type 0
PlainUnits = Units (Message Token) Token

abbrev pub OnTunnel : Type 0
OnTunnel = Item (Written (Load Pdu))

abbrev pub OnRadio : Type 0
OnRadio = Item (Written Pdu)

-- ---- what items say

abbrev pub load_of : OnTunnel → Load Pdu
load_of item = item.content.says

abbrev pub pdu_of : OnRadio → Pdu
pdu_of item = item.content.says

-- packets, with COUNTs from this one on; and in frames, with numbers from that one on
abbrev pub pdus_from : ℕ → List (List ℕ) → List Pdu
pdus_from count [] = []
pdus_from count (p ∷ ps) = packet_pdu count p ∷ pdus_from (count + 1) ps

abbrev pub frames_from : ℕ → ℕ → List (List ℕ) → List (Load Pdu)
frames_from number count [] = []
frames_from number count (p ∷ ps) = frame false false number (Some (packet_pdu count p)) ∷ frames_from (number + 1) (count + 1) ps

abbrev pub fresh_ones : List (List ℕ) → List (Load Pdu)
fresh_ones ps = map (λ p. fresh p) ps

-- a delivery status that reports no loss
abbrev pub IsCalm : OnTunnel → Type 0
IsCalm item = (delivered : Option ℕ) × (item.content.says ≡ status [] delivered)

-- ---- a bearer: its plan, its path, and what each unit and each link has of it

pub record View : Type 0 where
  pub plan : Plan
  pub path : CorePath
  pub up : CuUpModel
  pub n3 : ℕ
  pub downlink : DownlinkTunnel
  pub du : DuModel
  pub bearer : UeBearer
  pub on_n3 : List OnTunnel
  pub on_uplink : List OnTunnel
  pub on_downlink : List OnTunnel
  pub radio : Radio (Written Pdu)

abbrev pub n3_end : View → TunnelEnd
n3_end v = record { node = up_id v.plan.gnb v.plan.up; teid = v.n3 }

abbrev pub uplink_end : View → TunnelEnd
uplink_end v = record { node = up_id v.plan.gnb v.plan.up; teid = v.du.bearer.uplink }

abbrev pub downlink_end : View → TunnelEnd
downlink_end v = record { node = du_id v.plan.gnb v.plan.du; teid = v.du.bearer.downlink }

-- the terminal is there, connected in epoch 1 at the DU of its plan
pub record HasUe (units : PlainUnits) (ue : UeId) (bearer : BearerId) (plan : Plan) (b : UeBearer) : Type 0 where
  pub node : UeNode
  pub there : ue_of units ue ≡ Some node
  pub has : find bearer_cmp node.bearers bearer ≡ Some b
  pub state : node.state ≡ ue_states.Connected
  pub epoch : node.epoch ≡ 1
  pub home : node.home ≡ Some (du_id plan.gnb plan.du)
  pub own : node.plan.ue ≡ ue

-- the state has this of the bearer, and no other unit has anything of it
pub record Sees (s : PlainState) (ue : UeId) (bearer : BearerId) (v : View) : Type 0 where
  pub plan : find ue_cmp s.plans ue ≡ Some v.plan
  pub path : find ue_cmp s.core.paths ue ≡ Some v.path
  pub up : up_model_of (cu_up_of s.units v.plan.gnb v.plan.up) ue bearer ≡ Some v.up
  pub du : du_model_of (du_of s.units v.plan.gnb v.plan.du) ue bearer ≡ Some v.du
  pub terminal : HasUe s.units ue bearer v.plan v.bearer
  pub on_n3 : find tunnel_cmp s.tunnels (n3_end v) ≡ Some v.on_n3
  pub on_uplink : find tunnel_cmp s.tunnels (uplink_end v) ≡ Some v.on_uplink
  pub on_downlink : find tunnel_cmp s.tunnels (downlink_end v) ≡ Some v.on_downlink
  pub radio : radio_of s (entity ue bearer Dl) ≡ v.radio
  pub radio_up : radio_of s (entity ue bearer Ul) ≡ silent
  pub connected : find ue_cmp s.connected ue ≡ Some 1
  pub theirs : AllByRecursion (λ (item : OnRadio). item.key ≡ entity ue bearer Dl) v.radio.items
  pub only_up : (g : Gnb) (n : ℕ) (p : CuUpModel) → up_model_of (cu_up_of s.units g n) ue bearer ≡ Some p → (g ≡ v.plan.gnb) × (n ≡ v.plan.up)
  pub only_du : (g : Gnb) (n : ℕ) (p : DuModel) → du_model_of (du_of s.units g n) ue bearer ≡ Some p → (g ≡ v.plan.gnb) × (n ≡ v.plan.du)

-- its parts lead to one another, and it is served
pub record IsFit (bearer : BearerId) (v : View) : Type 0 where
  pub path_up : v.path.up ≡ up_id v.plan.gnb v.plan.up
  pub path_n3 : teid_of v.path.n3 bearer ≡ v.n3
  pub n3_given : v.n3 == 0 ≡ false
  pub uplink_given : v.du.bearer.uplink == 0 ≡ false
  pub downlink_given : v.du.bearer.downlink == 0 ≡ false
  pub flags : v.up.at.flags ≡ serving
  pub ends : ends_of v.up.bearer ≡ (Some v.n3, v.du.bearer.uplink ∷ [], None, None)
  pub restart : v.up.bearer.restart ≡ false
  pub downlink : v.up.bearer.downlink ≡ Some v.downlink
  pub to_du : v.downlink.du ≡ du_id v.plan.gnb v.plan.du
  pub to_teid : v.downlink.teid ≡ v.du.bearer.downlink
  pub from_du : v.du.bearer.up ≡ up_id v.plan.gnb v.plan.up
  pub epoch : v.du.epoch ≡ 1
  pub gap : v.du.bearer.gap ≡ false

-- After n packets were delivered, these are left of what was offered: on the radio, on the downlink tunnel, at the CU-UP and on N3.
pub record IsInOrder (v : View) (n : ℕ) (left : List (List ℕ)) : Type 0 where
  pub aired : List (List ℕ)
  pub framed : List (List ℕ)
  pub offered : List (List ℕ)
  -- of the radio what was carried, and what is to be carried
  pub known : List OnRadio
  pub flying : List OnRadio
  pub radio_is : v.radio.items ≡ known ++ flying
  pub carried_is : v.radio.carried ≡ length known
  pub on_radio : map pdu_of flying ≡ pdus_from n aired
  pub on_downlink : map load_of v.on_downlink ≡ frames_from v.du.bearer.awaited (n + length aired) framed
  pub on_n3 : map load_of v.on_n3 ≡ fresh_ones offered
  pub on_uplink : AllByRecursion IsCalm v.on_uplink
  pub frames : v.downlink.next ≡ v.du.bearer.awaited + length framed
  pub counts : v.up.bearer.sender.next ≡ n + length aired + length framed
  pub left_is : left ≡ aired ++ (framed ++ (v.up.bearer.waiting ++ offered))
  pub receiver : v.bearer.receiver ≡ record { deliv = n; stored = [] }

-- ---- how far a bearer came: its terminal isn't there; it has no such bearer; or it has

-- no unit has anything of it; and units are of their gNBs
abbrev pub IsNowhere : PlainState → UeId → BearerId → Type 0
IsNowhere s ue bearer =
    ((g : Gnb) (n : ℕ) → up_model_of (cu_up_of s.units g n) ue bearer ≡ None)
    × ((g : Gnb) (n : ℕ) → du_model_of (du_of s.units g n) ue bearer ≡ None)
    × (radio_of s (entity ue bearer Dl) ≡ silent)
    × (radio_of s (entity ue bearer Ul) ≡ silent)
    × ((g : Gnb) (n : ℕ) → ((cu_up_of s.units g n).gnb ≡ g) × ((du_of s.units g n).gnb ≡ g))

-- the terminal has no such bearer; what is offered there goes to no tunnel
pub record Lacks (s : PlainState) (ue : UeId) (bearer : BearerId) : Type 0 where
  pub plan : Plan
  pub planned : find ue_cmp s.plans ue ≡ Some plan
  pub path : CorePath
  pub path_there : find ue_cmp s.core.paths ue ≡ Some path
  pub path_up : path.up ≡ up_id plan.gnb plan.up
  pub path_n3 : teid_of path.n3 bearer ≡ 0
  pub node : UeNode
  pub there : ue_of s.units ue ≡ Some node
  pub has_not : find bearer_cmp node.bearers bearer ≡ None

pub data Stage (s : PlainState) (ue : UeId) (bearer : BearerId) (n : ℕ) (left : List (List ℕ)) : Type 0 where
  comes : find ue_cmp s.plans ue ≡ None → ue_of s.units ue ≡ None → IsNowhere s ue bearer → n ≡ 0 → left ≡ [] → Stage s ue bearer n left
  lacks : Lacks s ue bearer → IsNowhere s ue bearer → n ≡ 0 → Stage s ue bearer n left
  stands : (v : View) → Sees s ue bearer v → IsFit bearer v → IsInOrder v n left → Stage s ue bearer n left

-- each bearer is at a stage
pub record Stands (s : PlainState) (ue : UeId) (bearer : BearerId) : Type 0 where
  pub delivered : ℕ
  pub left : List (List ℕ)
  pub stage : Stage s ue bearer delivered left

abbrev pub AllStand : PlainState → Type 0
AllStand s = (ue : UeId) (bearer : BearerId) → Stands s ue bearer
