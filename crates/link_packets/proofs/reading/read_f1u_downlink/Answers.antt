use Rattle.gtpu.specs.Packets.{view}
use Rattle.link_defs.specs.Decoding.{f1u_downlink}
use Rattle.link_packets.specs.Items.{downlink_item}
use Rattle.link_packets.proofs.Through.{only_through}
use Rattle.link_packets.proofs.reading.read_f1u_downlink.Goals as goal

pub returns-in-Ok-clause-only : goal.returns-in-Ok-clause-only
returns-in-Ok-clause-only c = only_through f1u_downlink c.args.sn downlink_item c.args.octets.now (view c.in-Ok.packet) c.f1u_downlink_of.result c.in-Ok.ensures.found c.f1u_downlink_of.ensures.found c.f1u_downlink_of.ensures.none
