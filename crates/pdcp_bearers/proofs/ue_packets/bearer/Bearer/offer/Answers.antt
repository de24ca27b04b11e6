use Rattle.std.proofs.Common.{ap, subst}
use Rattle.unit_defs.specs.Ue.{UeBearer}
use Rattle.unit_messages.specs.steps.Steps.{Step, IsStep}
use Rattle.pdcp_bearers.specs.ue_bearers.Senders.{SenderState}
use Rattle.pdcp_bearers.specs.ue_packets.Bearers.{kept, terminal_of}
use Rattle.pdcp_bearers.proofs.ue_packets.RowLemmas.{offers_size, offers_quota, offers_room, bearer_of}
use Rattle.pdcp_bearers.proofs.ue_packets.bearer.Bearer.offer.Goals as goal

pub returns-then-len-gt-PACKET_LIMIT-clause-step : goal.returns-then-len-gt-PACKET_LIMIT-clause-step
returns-then-len-gt-PACKET_LIMIT-clause-step c = λ codec.
    offers_size codec (terminal_of c.args.terminal.now) c.args.bearer c.args.out.now c.push.new.self c.args.packet (kept c.args.self.now) c.len.result
    c.if-len-gt-PACKET_LIMIT.true c.len.ensures c.in_ok-push.ensures.ok

pub returns-then-used-from-clause-step : goal.returns-then-used-from-clause-step
returns-then-used-from-clause-step c = λ codec.
    offers_quota codec (terminal_of c.args.terminal.now) c.args.bearer c.args.out.now c.push-then-used-from.new.self c.args.packet (kept c.args.self.now)
    c.len.result c.used.result c.from.result c.if-len-gt-PACKET_LIMIT.false c.len.ensures c.if-used-from.true c.from.ensures c.used.ensures
    c.in_ok-push-2.ensures.ok

pub returns-clause-step : goal.returns-clause-step
returns-clause-step c = λ codec.
    let same = offers_room codec (terminal_of c.args.terminal.now) c.args.bearer c.args.out.now c.args.packet (kept c.args.self.now)
    (bearer_of c.offer.new.self c.args.self.now.downlink.receiver) c.len.result c.used.result c.from.result c.if-len-gt-PACKET_LIMIT.false c.len.ensures
    c.if-used-from.false c.from.ensures c.used.ensures
    (ap (λ (d : SenderState). bearer_of d c.args.self.now.downlink.receiver) c.in_ok-offer.ensures) in
    subst (λ (s : Step UeBearer). IsStep s c.number_waiting.new.out (kept c.number_waiting.new.self) c.number_waiting.result) same
    (c.number_waiting.ensures.step codec)
