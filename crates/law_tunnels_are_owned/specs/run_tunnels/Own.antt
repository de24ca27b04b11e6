-- What stands on a tunnel is of its owner, and of its kind; and so are its octets.
use Rattle.std.specs.Prelude.{ℕ, ◌≡◌, List, Some}
use Rattle.std.specs.List.{AllByRecursion}
use Rattle.std.specs.Ordering.{nat_cmp}
use Rattle.gnb_types.specs.declared.names.NodeId.{NodeId}
use Rattle.gnb_types.specs.declared.names.NodeId.TheVariants.{CuUp, Du}
use Rattle.gnb_types.specs.declared.names.SnBits.{SnBits}
use Rattle.gnb_types.specs.declared.names.Dir.{Dir}
use Rattle.gnb_types.specs.declared.names.Dir.TheVariants.{Dl, Ul}
use Rattle.gnb_types.specs.declared.keys.TunnelEnd.{TunnelEnd}
use Rattle.gnb_types.specs.declared.keys.EntityKey.{EntityKey}
use Rattle.gnb_types.specs.Orders.{tunnel_cmp}
use Rattle.message_types.specs.declared.rrc.Token.{Token}
use Rattle.tables.specs.Tables.{find}
use Rattle.unit_defs.specs.Ways.{Message, Pdu, Load}
use Rattle.unit_defs.specs.CuUpRecords.{TunnelKind, n3, f1u_uplink, forwarding_down, forwarding_up, CuUpTunnel}
use Rattle.unit_defs.specs.Du.{DuTunnel}
use Rattle.transport_defs.specs.declared.Item.{Item}
use Rattle.run_defs.specs.Units.{Units, cu_up_of, du_of}
use Rattle.run_defs.specs.Carried.{Layout, NoLayout, N3, ForwardingDown, ForwardingUp, F1uDownlink, F1uUplink, IsDeliveryStatus}
use Rattle.run_defs.specs.Written.{Written}
use Rattle.run_defs.specs.States.{State}
use Rattle.law_tunnels_are_owned.specs.link_items.Items.{GoesToDu, IsOfN3, IsForwardedDown, IsForwardedUp, IsStatus, IsOfUplink}

-- the direction and the load of a tunnel's kind; delivery statuses go down on an uplink of F1-U
abbrev pub IsOfKind : TunnelKind → Dir → Load Pdu → Type 0
IsOfKind n3 Dl load = IsOfN3 load
IsOfKind forwarding_down Dl load = IsForwardedDown load
IsOfKind forwarding_up Ul load = IsForwardedUp load
IsOfKind f1u_uplink Dl load = IsStatus load
IsOfKind f1u_uplink Ul load = IsOfUplink load
IsOfKind kind dir load = ⊥

-- of an item with this key and load on a tunnel with this end: where the TEID is open, it is its owner's and of its kind
abbrev pub IsOwnAt : {M C : Type 0} → Units M C → NodeId → ℕ → EntityKey → Load Pdu → Type 0
IsOwnAt units (CuUp gnb number) teid key load =
    (owner : CuUpTunnel) → find nat_cmp (cu_up_of units gnb number).tunnels teid ≡ Some owner
    → (key.ue ≡ owner.ue) × (key.bearer ≡ owner.bearer) × IsOfKind owner.kind key.dir load
IsOwnAt units (Du gnb number) teid key load =
    (owner : DuTunnel) → find nat_cmp (du_of units gnb number).tunnels teid ≡ Some owner
    → (key.ue ≡ owner.ue) × (key.bearer ≡ owner.bearer) × ((key.dir ≡ Dl) × GoesToDu load)
IsOwnAt units node teid key load = ⊥

abbrev pub TunnelsHoldTheirOwn : State (Message Token) Token (Written (Load Pdu)) (Written Pdu) → Type 0
TunnelsHoldTheirOwn s =
    (end : TunnelEnd) (items : List (Item (Written (Load Pdu)))) → find tunnel_cmp s.tunnels end ≡ Some items
    → AllByRecursion (λ (item : Item (Written (Load Pdu))). IsOwnAt s.units end.node end.teid item.key item.content.says) items

-- ---- the octets of a tunnel's kind in a direction (TS 29.281, 5.2; TS 38.425, 5.5.2; TS 38.323, 6.2)

abbrev pub layout_of : TunnelKind → Dir → Layout
layout_of n3 Dl = N3
layout_of forwarding_down Dl = ForwardingDown
layout_of forwarding_up Ul = ForwardingUp
layout_of f1u_uplink Dl = IsDeliveryStatus
layout_of f1u_uplink Ul = F1uUplink
layout_of kind dir = NoLayout

-- for the COUNT that is shown, with numbers of one of the two lengths
abbrev pub IsLaidBy : Layout → ℕ → Item (Written (Load Pdu)) → Type 0
IsLaidBy layout teid item = (sn : SnBits) × layout sn teid item.count item.content.octets

abbrev pub IsLaidAt : {M C : Type 0} → Units M C → NodeId → ℕ → Item (Written (Load Pdu)) → Type 0
IsLaidAt units (CuUp gnb number) teid item =
    (owner : CuUpTunnel) → find nat_cmp (cu_up_of units gnb number).tunnels teid ≡ Some owner → IsLaidBy (layout_of owner.kind item.key.dir) teid item
IsLaidAt units (Du gnb number) teid item =
    (owner : DuTunnel) → find nat_cmp (du_of units gnb number).tunnels teid ≡ Some owner → IsLaidBy F1uDownlink teid item
IsLaidAt units node teid item = ⊥

abbrev pub OctetsAreOfTheirKind : State (Message Token) Token (Written (Load Pdu)) (Written Pdu) → Type 0
OctetsAreOfTheirKind s =
    (end : TunnelEnd) (items : List (Item (Written (Load Pdu)))) → find tunnel_cmp s.tunnels end ≡ Some items
    → AllByRecursion (IsLaidAt s.units end.node end.teid) items
