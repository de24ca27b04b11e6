-- The kinds of tunnels and their items, as the procedure tables have them.
use Rattle.std.specs.Prelude.{ℕ, List, Option, Some, None}
use Rattle.std.specs.Borrow.{Bor}
use Rattle.pdcp.specs.Pdus.{Content, data_pdu, status_report, content_of}
use Rattle.link_defs.specs.Decoding.{Item, fresh, numbered, pdu, framed, poll, status, end_of_tunnel}
use Rattle.unit_defs.specs.CuUpRecords.{TunnelKind, n3, f1u_uplink, forwarding_down, forwarding_up}
use Rattle.pdcp_bearers.specs.ue_bearers.Senders.{IsPacket}
use Rattle.cu_up_items.specs.declared.items.items.Kind.{Kind}
use Rattle.cu_up_items.specs.declared.items.items.Kind.TheVariants.{N3, F1uUplink, ForwardingDown, ForwardingUp}
use Rattle.cu_up_items.specs.declared.items.items.CuUpItem.{CuUpItem}
use Rattle.cu_up_items.specs.declared.items.items.CuUpItem.TheVariants as items

abbrev pub kind_as : Kind → TunnelKind
kind_as N3 = n3
kind_as F1uUplink = f1u_uplink
kind_as ForwardingDown = forwarding_down
kind_as ForwardingUp = forwarding_up

abbrev pub item_as : CuUpItem → Item
item_as (items.Fresh packet) = fresh packet.now
item_as (items.Numbered number packet) = numbered number packet.now
item_as (items.Pdu content octets) = pdu (content_of content) octets.now
item_as (items.Status room lost delivered) = status room lost delivered
item_as items.End = end_of_tunnel

-- a packet in it has 1 to 2,048 octets
abbrev pub IsSizedContent : Content → Type 0
IsSizedContent (data_pdu number packet) = IsPacket packet
IsSizedContent (status_report fmc bitmap) = Unit {0}

abbrev pub IsSizedItem : Item → Type 0
IsSizedItem (fresh packet) = IsPacket packet
IsSizedItem (numbered number packet) = IsPacket packet
IsSizedItem (pdu content octets) = IsSizedContent content
IsSizedItem item = Unit {0}
