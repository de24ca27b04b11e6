-- What a packet of the code says on its link.
use Rattle.link_defs.specs.Decoding.{Item, fresh, numbered, pdu, framed, poll, status, end_of_tunnel}
use Rattle.pdcp.specs.Pdus.{content_of}
use Rattle.link_packets.specs.declared.reading.N3.{N3}
use Rattle.link_packets.specs.declared.reading.N3.TheVariants as on_n3
use Rattle.link_packets.specs.declared.reading.F1uDownlink.{F1uDownlink}
use Rattle.link_packets.specs.declared.reading.F1uDownlink.TheVariants as downlink
use Rattle.link_packets.specs.declared.reading.F1uUplink.{F1uUplink}
use Rattle.link_packets.specs.declared.reading.F1uUplink.TheVariants as uplink
use Rattle.link_packets.specs.declared.reading.Forwarded.{Forwarded}
use Rattle.link_packets.specs.declared.reading.Forwarded.TheVariants as forwarded

abbrev pub n3_item : N3 → Item
n3_item (on_n3.Packet packet) = fresh packet.now
n3_item on_n3.End = end_of_tunnel

abbrev pub downlink_item : F1uDownlink → Item
downlink_item (downlink.Pdu restart number content octets) = framed restart number (content_of content) octets.now
downlink_item (downlink.Poll restart number) = poll restart number

abbrev pub uplink_item : F1uUplink → Item
uplink_item (uplink.Pdu content octets) = pdu (content_of content) octets.now
uplink_item (uplink.Status room lost delivered) = status room lost delivered
uplink_item uplink.End = end_of_tunnel

abbrev pub forwarded_item : Forwarded → Item
forwarded_item (forwarded.Fresh packet) = fresh packet.now
forwarded_item (forwarded.Numbered number packet) = numbered number packet.now
forwarded_item forwarded.End = end_of_tunnel
