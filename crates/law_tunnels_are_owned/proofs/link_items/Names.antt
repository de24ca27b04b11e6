-- What units keep of the nodes to which they put items: a downlink goes to a DU, a hop and an uplink to a CU-UP.
use Rattle.std.proofs.Common.{◌≡◌, ℕ, List, Option, Some, None, subst, sym}
use Rattle.gnb_types.specs.declared.names.NodeId.{NodeId}
use Rattle.gnb_types.specs.declared.names.NodeId.TheVariants.{CuUp as up_id, Du as du_id, Core, Ue as ue_id}
use Rattle.gnb_types.specs.declared.names.UeId.{UeId}
use Rattle.gnb_types.specs.declared.names.BearerId.{BearerId}
use Rattle.gnb_types.specs.declared.names.Dir.TheVariants.{Dl, Ul}
use Rattle.gnb_types.specs.declared.names.Dir.{Dir}
use Rattle.gnb_types.specs.declared.keys.EntityKey.{EntityKey}
use Rattle.transport_defs.specs.declared.Item.{Item}
use Rattle.gnb_types.specs.Orders.{ue_cmp}
use Rattle.message_types.specs.declared.rrc.Token.{Token}
use Rattle.tables.specs.Tables.{find}
use Rattle.std.specs.List.{AllByRecursion}
use Rattle.unit_defs.specs.Ways.{Message, Pdu, packet_pdu, report_pdu, Load, fresh, numbered, frame, uplink, status, end_marker, packet_content, Taken, numbered_item, uplink_item}
use Rattle.unit_defs.specs.CuUpRecords.{DownlinkTunnel, SourceHop, CuUpBearer, CuUpContext, CuUp}
use Rattle.unit_defs.specs.Du.{DuBearer, DuContext, Du}
use Rattle.unit_defs.specs.Core.{CorePath, CoreRecord}
use Rattle.run_defs.specs.Runs.{taken_of}
use Rattle.proof_run_steps.specs.facts.UnitFacts.{UnitFacts}
use Rattle.law_tunnels_are_owned.specs.link_items.Items.{count_of_pdu, count_of_load, GoesDown, GoesUp, GoesToDu, IsOfN3, IsForwardedDown, IsForwardedUp, IsStatus, IsOfUplink, MayPut, IsPutOnTunnel, IsPutOnRadio, MayStand, IsOnTunnel, IsOnRadio}

abbrev pub IsDu : NodeId → Type 0
IsDu (du_id gnb number) = Unit {0}
IsDu node = ⊥

abbrev pub IsCuUp : NodeId → Type 0
IsCuUp (up_id gnb number) = Unit {0}
IsCuUp node = ⊥

abbrev pub IsUe : NodeId → Type 0
IsUe (ue_id ue) = Unit {0}
IsUe node = ⊥

-- a CU-UP puts frames to a DU, and forwards to a CU-UP
pub to_du : (from node : NodeId) (load : Load Pdu) → IsCuUp from → IsDu node → GoesToDu load → MayPut from node Dl load
to_du (up_id g n) (du_id gnb number) load at is p = p
to_du (up_id g n) node load at is p = absurd is
to_du from node load at is p = absurd at

pub forwards_down : (from node : NodeId) (load : Load Pdu) → IsCuUp from → IsCuUp node → IsForwardedDown load → MayPut from node Dl load
forwards_down (up_id g n) (up_id gnb number) load at is p = p
forwards_down (up_id g n) node load at is p = absurd is
forwards_down from node load at is p = absurd at

pub forwards_up : (from node : NodeId) (load : Load Pdu) → IsCuUp from → IsCuUp node → IsForwardedUp load → MayPut from node Ul load
forwards_up (up_id g n) (up_id gnb number) load at is p = p
forwards_up (up_id g n) node load at is p = absurd is
forwards_up from node load at is p = absurd at

-- a DU puts delivery statuses, and what comes up, to a CU-UP; and PDUs on a downlink radio
pub tells_up : (from node : NodeId) (load : Load Pdu) → IsDu from → IsCuUp node → IsStatus load → MayPut from node Dl load
tells_up (du_id g n) (up_id gnb number) load at is p = p
tells_up (du_id g n) node load at is p = absurd is
tells_up from node load at is p = absurd at

pub passes_up : (from node : NodeId) (load : Load Pdu) → IsDu from → IsCuUp node → IsOfUplink load → MayPut from node Ul load
passes_up (du_id g n) (up_id gnb number) load at is p = p
passes_up (du_id g n) node load at is p = absurd is
passes_up from node load at is p = absurd at

pub du_on_air : (from : NodeId) (key : EntityKey) (item : Item Pdu) → IsDu from → item.count ≡ count_of_pdu item.content → item.key.dir ≡ Dl → IsPutOnRadio from key item
du_on_air (du_id g n) key item at is p = (is, p)
du_on_air from key item at is p = absurd at

pub ue_on_air : (from : NodeId) (key : EntityKey) (item : Item Pdu) → IsUe from → item.count ≡ count_of_pdu item.content → item.key.dir ≡ Ul → IsPutOnRadio from key item
ue_on_air (ue_id ue) key item at is p = (is, p)
ue_on_air from key item at is p = absurd at

-- the core puts packets and End Markers to a CU-UP
pub core_puts : (node : NodeId) (load : Load Pdu) → IsCuUp node → IsOfN3 load → MayPut Core node Dl load
core_puts (up_id gnb number) load is p = p
core_puts node load is p = absurd is

-- what is put may stand there
down_of_n3 : (load : Load Pdu) → IsOfN3 load → GoesDown load
down_of_n3 (fresh p) is = tt
down_of_n3 end_marker is = tt
down_of_n3 load is = absurd is

down_of_forwarded : (load : Load Pdu) → IsForwardedDown load → GoesDown load
down_of_forwarded (fresh p) is = tt
down_of_forwarded (numbered sn count p) is = tt
down_of_forwarded end_marker is = tt
down_of_forwarded load is = absurd is

down_of_status : (load : Load Pdu) → IsStatus load → GoesDown load
down_of_status (status lost delivered) is = tt
down_of_status load is = absurd is

up_of_forwarded : (load : Load Pdu) → IsForwardedUp load → GoesUp load
up_of_forwarded (numbered sn count p) is = tt
up_of_forwarded end_marker is = tt
up_of_forwarded load is = absurd is

up_of_uplink : (load : Load Pdu) → IsOfUplink load → GoesUp load
up_of_uplink (uplink pdu) is = tt
up_of_uplink end_marker is = tt
up_of_uplink load is = absurd is

pub stands_there : (from node : NodeId) (dir : Dir) (load : Load Pdu) → MayPut from node dir load → MayStand node dir load
stands_there Core (up_id gnb number) Dl load p = down_of_n3 load p
stands_there (up_id g n) (du_id gnb number) Dl load p = p
stands_there (up_id g n) (up_id gnb number) Dl load p = down_of_forwarded load p
stands_there (up_id g n) (up_id gnb number) Ul load p = up_of_forwarded load p
stands_there (du_id g n) (up_id gnb number) Dl load p = down_of_status load p
stands_there (du_id g n) (up_id gnb number) Ul load p = up_of_uplink load p
stands_there from node dir load p = absurd p

pub on_air : (from : NodeId) (key : EntityKey) (item : Item Pdu) → IsPutOnRadio from key item → IsOnRadio item
on_air (du_id g n) key item p = p.0
on_air (ue_id ue) key item p = p.0
on_air from key item p = absurd p

-- ---- a CU-UP

abbrev pub DownlinkNames : Option DownlinkTunnel → Type 0
DownlinkNames None = Unit {0}
DownlinkNames (Some d) = IsDu d.du

abbrev pub HopNames : Option SourceHop → Type 0
HopNames None = Unit {0}
HopNames (Some hop) = IsCuUp hop.peer

abbrev pub BearerNames : CuUpBearer → Type 0
BearerNames b = DownlinkNames b.downlink × HopNames b.hop

abbrev pub BearersName : List (BearerId × CuUpBearer) → Type 0
BearersName bearers = AllByRecursion (λ (e : BearerId × CuUpBearer). BearerNames e.1) bearers

abbrev pub CuUpNames : CuUp (Message Token) Token → Type 0
CuUpNames r = (ue : UeId) (c : CuUpContext) → find ue_cmp r.contexts ue ≡ Some c → BearersName c.bearers

-- ---- a DU, and the core

abbrev pub DuBearersName : List (BearerId × DuBearer) → Type 0
DuBearersName bearers = AllByRecursion (λ (e : BearerId × DuBearer). IsCuUp e.1.up) bearers

abbrev pub DuNames : Du (Message Token) Token → Type 0
DuNames r = (ue : UeId) (c : DuContext) → find ue_cmp r.contexts ue ≡ Some c → DuBearersName c.bearers

abbrev pub CoreNames : CoreRecord (Message Token) Token → Type 0
CoreNames r = (ue : UeId) (path : CorePath) → find ue_cmp r.paths ue ≡ Some path → IsCuUp path.up

abbrev pub link_items : UnitFacts
link_items = record {
  up = λ gnb number r. CuUpNames r;
  du = λ gnb number r. DuNames r;
  cp = λ gnb r. Unit {0};
  ue = λ ue u. Unit {0};
  core = CoreNames;
  control_message = λ l. Unit {0};
  puts_on = IsPutOnTunnel;
  puts_on_air = IsPutOnRadio;
  on_tunnel = IsOnTunnel;
  on_radio = λ key item. IsOnRadio item;
  stands = λ node end item p. (p.0, stands_there node end.node item.key.dir item.content p.1);
  stands_on_air = on_air;
}

-- ---- the COUNT beside what is taken is the one that it says

abbrev pub Agrees : Option ℕ → Taken Pdu → Type 0
Agrees taken (numbered_item (Some count) p) = taken ≡ Some count
Agrees taken (uplink_item (packet_content (Some count) p)) = taken ≡ Some count
Agrees taken item = Unit {0}

agrees_load : (taken : Option ℕ) (load : Load Pdu) → taken ≡ count_of_load load → Agrees taken (taken_of load)
agrees_load taken (fresh p) is = tt
agrees_load taken (numbered sn count p) is = is
agrees_load taken (frame poll restart number pdu) is = tt
agrees_load taken (uplink (packet_pdu count p)) is = is
agrees_load taken (uplink (report_pdu fmc bits)) is = tt
agrees_load taken (status lost delivered) is = tt
agrees_load taken end_marker is = tt

pub agrees : (taken : Option ℕ) (item : Taken Pdu) (load : Load Pdu) → item ≡ taken_of load → taken ≡ count_of_load load → Agrees taken item
agrees taken item load same is = subst (Agrees taken) (sym same) (agrees_load taken load is)
