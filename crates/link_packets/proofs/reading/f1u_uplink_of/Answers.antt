use Rattle.std.proofs.Common.{sym, ◌∙◌, true≢false}
use Rattle.gtpu.specs.Packets.{view}
use Rattle.link_packets.proofs.Nothing.{nothing_uplink}
use Rattle.link_packets.proofs.reading.f1u_uplink_of.Goals as goal

pub returns-in-None-clause-none : goal.returns-in-None-clause-none
returns-in-None-clause-none c =
    nothing_uplink c.args.sn (view c.args.packet.now) (λ says. true≢false (sym (c.is_end.ensures.1 says) ∙ c.if-is_end.false)) c.in_default.ensures.none c.in-None.ensures.none
