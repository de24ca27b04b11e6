-- What stands on a tunnel, by the node at its end and by its direction, and on a radio; and the COUNT that it says.
use Rattle.std.specs.Prelude.{ℕ, ◌≡◌, Bool, true, false, List, Option, Some, None}
use Rattle.std.specs.List.{AllByRecursion}
use Rattle.gnb_types.specs.declared.names.NodeId.{NodeId}
use Rattle.gnb_types.specs.declared.names.NodeId.TheVariants.{CuUp, Du, Core, Ue}
use Rattle.gnb_types.specs.declared.names.Dir.{Dir}
use Rattle.gnb_types.specs.declared.names.Dir.TheVariants.{Dl, Ul}
use Rattle.gnb_types.specs.declared.keys.TunnelEnd.{TunnelEnd}
use Rattle.gnb_types.specs.declared.keys.EntityKey.{EntityKey}
use Rattle.gnb_types.specs.Orders.{tunnel_cmp}
use Rattle.message_types.specs.declared.rrc.Token.{Token}
use Rattle.tables.specs.Tables.{find}
use Rattle.unit_defs.specs.Ways.{Message, Pdu, packet_pdu, report_pdu, Load, fresh, numbered, frame, uplink, status, end_marker}
use Rattle.transport_defs.specs.declared.Item.{Item}
use Rattle.run_defs.specs.Written.{Written}
use Rattle.run_defs.specs.States.{State, radio_of}
use Rattle.proof_run_steps.specs.facts.UnitFacts.{said_item}

-- ---- the COUNT that is said: of the packet, and of what a delivery status confirms

abbrev pub count_of_pdu : Pdu → Option ℕ
count_of_pdu (packet_pdu count p) = Some count
count_of_pdu (report_pdu fmc bits) = None

abbrev pub count_of_payload : Option Pdu → Option ℕ
count_of_payload None = None
count_of_payload (Some pdu) = count_of_pdu pdu

abbrev pub count_of_load : Load Pdu → Option ℕ
count_of_load (fresh p) = None
count_of_load (numbered sn count p) = Some count
count_of_load (frame poll restart number pdu) = count_of_payload pdu
count_of_load (uplink pdu) = count_of_pdu pdu
count_of_load (status lost delivered) = delivered
count_of_load end_marker = None

-- ---- what may stand there (TS 38.401, 6.1.2; TS 38.425, 5.4; TS 38.300, 9.2.3.2)

-- a frame polls and carries nothing, or carries a PDU; the restart mark stands on packets alone
abbrev pub IsFrame : Bool → Bool → Option Pdu → Type 0
IsFrame poll restart None = (poll ≡ true) × (restart ≡ false)
IsFrame poll restart (Some (packet_pdu count p)) = poll ≡ false
IsFrame poll restart (Some (report_pdu fmc bits)) = (poll ≡ false) × (restart ≡ false)

-- N3, forwarding down, and the delivery statuses of a DU
abbrev pub GoesDown : Load Pdu → Type 0
GoesDown (fresh p) = Unit {0}
GoesDown (numbered sn count p) = Unit {0}
GoesDown (status lost delivered) = Unit {0}
GoesDown end_marker = Unit {0}
GoesDown load = ⊥

-- F1-U uplink, and forwarding up
abbrev pub GoesUp : Load Pdu → Type 0
GoesUp (uplink pdu) = Unit {0}
GoesUp (numbered sn count p) = Unit {0}
GoesUp end_marker = Unit {0}
GoesUp load = ⊥

-- F1-U downlink
abbrev pub GoesToDu : Load Pdu → Type 0
GoesToDu (frame poll restart number pdu) = IsFrame poll restart pdu
GoesToDu load = ⊥

-- ---- and who puts it: the core, a CU-UP, a DU

abbrev pub IsOfN3 : Load Pdu → Type 0
IsOfN3 (fresh p) = Unit {0}
IsOfN3 end_marker = Unit {0}
IsOfN3 load = ⊥

abbrev pub IsForwardedDown : Load Pdu → Type 0
IsForwardedDown (fresh p) = Unit {0}
IsForwardedDown (numbered sn count p) = Unit {0}
IsForwardedDown end_marker = Unit {0}
IsForwardedDown load = ⊥

abbrev pub IsForwardedUp : Load Pdu → Type 0
IsForwardedUp (numbered sn count p) = Unit {0}
IsForwardedUp end_marker = Unit {0}
IsForwardedUp load = ⊥

abbrev pub IsStatus : Load Pdu → Type 0
IsStatus (status lost delivered) = Unit {0}
IsStatus load = ⊥

abbrev pub IsOfUplink : Load Pdu → Type 0
IsOfUplink (uplink pdu) = Unit {0}
IsOfUplink end_marker = Unit {0}
IsOfUplink load = ⊥

abbrev pub MayPut : NodeId → NodeId → Dir → Load Pdu → Type 0
MayPut Core (CuUp gnb number) Dl load = IsOfN3 load
MayPut (CuUp other up) (Du gnb number) Dl load = GoesToDu load
MayPut (CuUp other up) (CuUp gnb number) Dl load = IsForwardedDown load
MayPut (CuUp other up) (CuUp gnb number) Ul load = IsForwardedUp load
MayPut (Du other du) (CuUp gnb number) Dl load = IsStatus load
MayPut (Du other du) (CuUp gnb number) Ul load = IsOfUplink load
MayPut from node dir load = ⊥

abbrev pub IsPutOnTunnel : NodeId → TunnelEnd → Item (Load Pdu) → Type 0
IsPutOnTunnel from end item = (item.count ≡ count_of_load item.content) × MayPut from end.node item.key.dir item.content

-- a DU puts PDUs on a downlink radio, a terminal on an uplink one
abbrev pub IsPutOnRadio : NodeId → EntityKey → Item Pdu → Type 0
IsPutOnRadio (Du gnb number) key item = (item.count ≡ count_of_pdu item.content) × (item.key.dir ≡ Dl)
IsPutOnRadio (Ue ue) key item = (item.count ≡ count_of_pdu item.content) × (item.key.dir ≡ Ul)
IsPutOnRadio from key item = ⊥

abbrev pub MayStand : NodeId → Dir → Load Pdu → Type 0
MayStand (CuUp gnb number) Dl load = GoesDown load
MayStand (CuUp gnb number) Ul load = GoesUp load
MayStand (Du gnb number) Dl load = GoesToDu load
MayStand node dir load = ⊥

abbrev pub IsOnTunnel : TunnelEnd → Item (Load Pdu) → Type 0
IsOnTunnel end item = (item.count ≡ count_of_load item.content) × MayStand end.node item.key.dir item.content

abbrev pub IsOnRadio : Item Pdu → Type 0
IsOnRadio item = item.count ≡ count_of_pdu item.content

-- ---- in a state of `Run`: each item shows the COUNT that it says, and may stand there

pub record ItemsShow (s : State (Message Token) Token (Written (Load Pdu)) (Written Pdu)) : Type 0 where
  pub tunnels : (end : TunnelEnd) (items : List (Item (Written (Load Pdu)))) → find tunnel_cmp s.tunnels end ≡ Some items
      → AllByRecursion (λ (item : Item (Written (Load Pdu))). IsOnTunnel end (said_item item)) items
  pub radios : (key : EntityKey) → AllByRecursion (λ (item : Item (Written Pdu)). IsOnRadio (said_item item)) (radio_of s key).items
