use Rattle.gtpu.specs.Packets.{view}
use Rattle.link_defs.specs.Decoding.{f1u_uplink}
use Rattle.link_packets.specs.Items.{uplink_item}
use Rattle.link_packets.proofs.Through.{only_through}
use Rattle.link_packets.proofs.reading.read_f1u_uplink.Goals as goal

pub returns-in-Ok-clause-only : goal.returns-in-Ok-clause-only
returns-in-Ok-clause-only c = only_through f1u_uplink c.args.sn uplink_item c.args.octets.now (view c.in-Ok.packet) c.f1u_uplink_of.result c.in-Ok.ensures.found c.f1u_uplink_of.ensures.found c.f1u_uplink_of.ensures.none
