use Rattle.gtpu.specs.Packets.{view}
use Rattle.link_packets.proofs.Nothing.{nothing_down_where}
use Rattle.link_packets.proofs.reading.forwarding_down_of.Goals as goal

pub returns-in-None-clause-none : goal.returns-in-None-clause-none
returns-in-None-clause-none c = nothing_down_where c.forwarding_up_of.result c.args.sn (view c.args.packet.now) c.in-None.ensures.none c.forwarding_up_of.ensures.none
