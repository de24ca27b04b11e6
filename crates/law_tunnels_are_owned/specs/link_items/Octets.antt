-- The octets of what stands on a tunnel, by the node at its end and by its direction, and on a radio.
use Rattle.std.specs.Prelude.{◌≡◌, List, Some, ◌⊎◌}
use Rattle.std.specs.List.{AllByRecursion}
use Rattle.gnb_types.specs.declared.names.NodeId.{NodeId}
use Rattle.gnb_types.specs.declared.names.NodeId.TheVariants.{CuUp, Du}
use Rattle.gnb_types.specs.declared.names.Dir.{Dir}
use Rattle.gnb_types.specs.declared.names.Dir.TheVariants.{Dl, Ul}
use Rattle.gnb_types.specs.declared.names.SnBits.{SnBits}
use Rattle.gnb_types.specs.declared.keys.TunnelEnd.{TunnelEnd}
use Rattle.gnb_types.specs.declared.keys.EntityKey.{EntityKey}
use Rattle.gnb_types.specs.Orders.{tunnel_cmp}
use Rattle.message_types.specs.declared.rrc.Token.{Token}
use Rattle.tables.specs.Tables.{find}
use Rattle.unit_defs.specs.Ways.{Message, Pdu, Load}
use Rattle.transport_defs.specs.declared.Item.{Item}
use Rattle.run_defs.specs.Carried.{Layout, NoLayout, ForwardingDown, ForwardingUp, F1uDownlink, F1uUplink, IsDeliveryStatus, IsRadioData, IsRadioReport}
use Rattle.run_defs.specs.Written.{Written}
use Rattle.run_defs.specs.States.{State, radio_of}

-- of all links that lead to the node in this direction (N3 has the layouts of forwarding down but for the numbered one)
abbrev pub layout_to : NodeId → Dir → Layout
layout_to (Du gnb number) Dl = F1uDownlink
layout_to (CuUp gnb number) Dl = λ sn teid count octets. ForwardingDown sn teid count octets ⊎ IsDeliveryStatus sn teid count octets
layout_to (CuUp gnb number) Ul = λ sn teid count octets. F1uUplink sn teid count octets ⊎ ForwardingUp sn teid count octets
layout_to node dir = NoLayout

-- for the COUNT that is shown, with numbers of one of the two lengths
abbrev pub IsLaidTo : TunnelEnd → Item (Written (Load Pdu)) → Type 0
IsLaidTo end item = (sn : SnBits) × layout_to end.node item.key.dir sn end.teid item.count item.content.octets

abbrev pub IsLaidOnAir : Item (Written Pdu) → Type 0
IsLaidOnAir item = (sn : SnBits) × (IsRadioData sn item.count item.content.octets ⊎ IsRadioReport item.content.octets)

-- each item of a state of `Run`
pub record ItemsAreLaid (s : State (Message Token) Token (Written (Load Pdu)) (Written Pdu)) : Type 0 where
  pub tunnels : (end : TunnelEnd) (items : List (Item (Written (Load Pdu)))) → find tunnel_cmp s.tunnels end ≡ Some items
      → AllByRecursion (IsLaidTo end) items
  pub radios : (key : EntityKey) → AllByRecursion IsLaidOnAir (radio_of s key).items
