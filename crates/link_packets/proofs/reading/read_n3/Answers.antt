use Rattle.gtpu.specs.Packets.{view}
use Rattle.link_defs.specs.Decoding.{n3}
use Rattle.link_packets.specs.Items.{n3_item}
use Rattle.link_packets.proofs.Through.{found_through, only_through}
use Rattle.link_packets.proofs.reading.read_n3.Goals as goal

pub returns-in-Ok-clause-found : goal.returns-in-Ok-clause-found
returns-in-Ok-clause-found c = λ sn. found_through n3 sn n3_item c.args.octets.now (view c.in-Ok.packet) c.n3_of.result c.in-Ok.ensures.found (c.n3_of.ensures.found sn)

pub returns-in-Ok-clause-only : goal.returns-in-Ok-clause-only
returns-in-Ok-clause-only c = λ sn. only_through n3 sn n3_item c.args.octets.now (view c.in-Ok.packet) c.n3_of.result c.in-Ok.ensures.found (c.n3_of.ensures.found sn) (c.n3_of.ensures.none sn)
