use Rattle.std.proofs.Common.{ap}
use Rattle.pdcp.specs.Pdus.{content_of}
use Rattle.pdcp.specs.declared.pdu.Pdu.{Pdu}
use Rattle.pdcp_defs.specs.Counts.{near_count}
use Rattle.unit_defs.specs.CuUpItems.{took_content}
use Rattle.unit_defs.specs.octet_defs.Codec.{octet_way}
use Rattle.unit_defs.specs.octet_defs.Reading.{content_by}
use Rattle.unit_messages.specs.steps.Steps.{step_after}
use Rattle.cu_up_bearer.specs.tunnels.Tunnels.{at_as}
use Rattle.cu_up_bearer.proofs.downlink.Sequels.{step_as}
use Rattle.cu_up_bearer.specs.bearers.Bearers.{kept}
use Rattle.cu_up_items.proofs.items.taking.take_pdu.Goals as goal

pub returns-in-Packet-clause-step : goal.returns-in-Packet-clause-step
returns-in-Packet-clause-step c = λ codec.
    let b = kept c.args.bearer.now in
    let a = c.args.at.now in
    step_as _ _ _ _ _
    (ap (λ (p : Pdu). step_after c.args.out.now (took_content (octet_way codec) (at_as a) (content_by (near_count a.sn c.args.bearer.now.receiving.receiver.deliv) (content_of p)) b)) c.in-Packet.is)
    (c.take_uplink.ensures.step codec)

pub returns-in-Report-clause-step : goal.returns-in-Report-clause-step
returns-in-Report-clause-step c = λ codec.
    let b = kept c.args.bearer.now in
    let a = c.args.at.now in
    step_as _ _ _ _ _
    (ap (λ (p : Pdu). step_after c.args.out.now (took_content (octet_way codec) (at_as a) (content_by (near_count a.sn c.args.bearer.now.receiving.receiver.deliv) (content_of p)) b)) c.in-Report.is)
    (c.take_report.ensures.step codec)
