-- What a reading of the code says.
use Rattle.link_defs.specs.Decoding.{Item as Says, pdu}
use Rattle.pdcp.specs.Pdus.{content_of}
use Rattle.link_packets.specs.Items.{downlink_item, uplink_item, forwarded_item}
use Rattle.transcript_check.specs.declared.packets.Reading.{Reading}
use Rattle.transcript_check.specs.declared.packets.Reading.TheVariants.{AtDu, Forwarded, Uplink, OnRadio}

abbrev pub says_of : Reading → Says
says_of (AtDu x) = downlink_item x
says_of (Forwarded x) = forwarded_item x
says_of (Uplink x) = uplink_item x
says_of (OnRadio content octets) = pdu (content_of content) octets.now
