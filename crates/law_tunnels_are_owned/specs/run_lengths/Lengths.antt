-- How long the numbers of a terminal's COUNTs are: as its plan says, in the contexts of all units and in the octets of what stands on links.
use Rattle.std.specs.Prelude.{ℕ, ◌≡◌, List, Some}
use Rattle.std.specs.List.{AllByRecursion}
use Rattle.gnb_types.specs.declared.names.Gnb.{Gnb}
use Rattle.gnb_types.specs.declared.names.SnBits.{SnBits}
use Rattle.gnb_types.specs.declared.names.UeId.{UeId}
use Rattle.gnb_types.specs.declared.keys.TunnelEnd.{TunnelEnd}
use Rattle.gnb_types.specs.declared.keys.EntityKey.{EntityKey}
use Rattle.gnb_types.specs.Orders.{ue_cmp, tunnel_cmp}
use Rattle.message_types.specs.declared.rrc.Token.{Token}
use Rattle.tables.specs.Tables.{find}
use Rattle.unit_defs.specs.Ways.{Message, Pdu, Load, numbered}
use Rattle.unit_defs.specs.CuUpRecords.{CuUpContext}
use Rattle.unit_defs.specs.Du.{DuContext}
use Rattle.unit_defs.specs.CuCpRecords.{CuCpContext, CuCpTerminal}
use Rattle.unit_defs.specs.octet_defs.Writing.{pdu_octets, load_octets, written_load}
use Rattle.transport_defs.specs.declared.Item.{Item}
use Rattle.run_defs.specs.Units.{cu_cp_of, cu_up_of, du_of}
use Rattle.run_defs.specs.Written.{Written}
use Rattle.run_defs.specs.States.{State, sn_of, radio_of}

-- a packet that is forwarded with a number says how long it is
abbrev pub IsNumberedBy : SnBits → Load Pdu → Type 0
IsNumberedBy sn (numbered bits count p) = bits ≡ sn
IsNumberedBy sn load = Unit {0}

-- the octets of an item with numbers of this length
abbrev pub IsWrittenBy : SnBits → ℕ → Item (Written (Load Pdu)) → Type 0
IsWrittenBy sn teid item = (item.content.octets ≡ load_octets teid (written_load sn item.content.says)) × IsNumberedBy sn item.content.says

abbrev pub IsWrittenOnAirBy : SnBits → Item (Written Pdu) → Type 0
IsWrittenOnAirBy sn item = item.content.octets ≡ pdu_octets sn item.content.says

pub record NumbersAreOfPlans (s : State (Message Token) Token (Written (Load Pdu)) (Written Pdu)) : Type 0 where
  pub tunnels : (end : TunnelEnd) (items : List (Item (Written (Load Pdu)))) → find tunnel_cmp s.tunnels end ≡ Some items
      → AllByRecursion (λ (item : Item (Written (Load Pdu))). IsWrittenBy (sn_of s item.key.ue) end.teid item) items
  pub radios : (key : EntityKey) → AllByRecursion (λ (item : Item (Written Pdu)). IsWrittenOnAirBy (sn_of s item.key.ue) item) (radio_of s key).items
  pub cps : (gnb : Gnb) (ue : UeId) (t : CuCpTerminal) (c : CuCpContext) → find ue_cmp (cu_cp_of s.units gnb).terminals ue ≡ Some t → t.context ≡ Some c
      → sn_of s ue ≡ c.sn
  pub ups : (gnb : Gnb) (number : ℕ) (ue : UeId) (c : CuUpContext) → find ue_cmp (cu_up_of s.units gnb number).contexts ue ≡ Some c → sn_of s ue ≡ c.sn
  pub dus : (gnb : Gnb) (number : ℕ) (ue : UeId) (c : DuContext) → find ue_cmp (du_of s.units gnb number).contexts ue ≡ Some c → sn_of s ue ≡ c.sn
