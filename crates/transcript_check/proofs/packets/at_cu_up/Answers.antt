use Rattle.link_packets.specs.Items.{forwarded_item}
use Rattle.transcript_check.proofs.AtCuUp.{only_forwarded}
use Rattle.transcript_check.proofs.packets.at_cu_up.Goals as goal

pub returns-in-Some-clause-only : goal.returns-in-Some-clause-only
returns-in-Some-clause-only c =
    only_forwarded c.args.sn c.args.dir (forwarded_item c.in-Some.x) c.args.octets.now c.in-Some.ensures.found.0 c.in-Some.ensures.found.1
