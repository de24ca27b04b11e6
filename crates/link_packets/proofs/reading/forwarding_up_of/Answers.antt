use Rattle.std.proofs.Common.{sym, ◌∙◌, true≢false}
use Rattle.gtpu.specs.Packets.{view}
use Rattle.link_packets.proofs.Nothing.{nothing_up}
use Rattle.link_packets.proofs.reading.forwarding_up_of.Goals as goal

pub returns-in-None-clause-none : goal.returns-in-None-clause-none
returns-in-None-clause-none c = nothing_up c.args.sn (view c.args.packet.now) (λ says. true≢false (sym (c.is_end.ensures.1 says) ∙ c.if-is_end.false)) c.in-None.ensures.none
