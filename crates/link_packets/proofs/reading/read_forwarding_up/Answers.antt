use Rattle.gtpu.specs.Packets.{view}
use Rattle.link_defs.specs.Decoding.{forwarding_up}
use Rattle.link_packets.specs.Items.{forwarded_item}
use Rattle.link_packets.proofs.Through.{only_through}
use Rattle.link_packets.proofs.reading.read_forwarding_up.Goals as goal

pub returns-in-Ok-clause-only : goal.returns-in-Ok-clause-only
returns-in-Ok-clause-only c = only_through forwarding_up c.args.sn forwarded_item c.args.octets.now (view c.in-Ok.packet) c.forwarding_up_of.result c.in-Ok.ensures.found c.forwarding_up_of.ensures.found c.forwarding_up_of.ensures.none
