use Rattle.gtpu.specs.Packets.{view}
use Rattle.link_packets.proofs.Nothing.{nothing_framed}
use Rattle.link_packets.proofs.reading.f1u_downlink_of.Goals as goal

pub returns-in_default-clause-none : goal.returns-in_default-clause-none
returns-in_default-clause-none c = nothing_framed c.args.sn (view c.args.packet.now) c.in_default.ensures.none
