use Rattle.std.proofs.Common.{ap, arith}
use Rattle.pdcp.specs.Pdus.{content_of}
use Rattle.unit_defs.specs.octet_defs.Reading.{content_by, count_received_in, bearer_at}
use Rattle.ue_node.specs.rows.Records.{record_of}
use Rattle.ue_node.proofs.rows.AtBearer.{is_of, take_none, take_packet_there, take_report_there}
use Rattle.ue_node.proofs.rows.record.UeRecord.take.Goals as goal

pub returns-in_default-clause-step : goal.returns-in_default-clause-step
returns-in_default-clause-step c = λ codec.
    take_none c.args.self.now c.args.bearer c.len.result (omega (arith, c.args.self.now.bearers.ok.0)) c.in_default.ensures.none codec
    c.args.out.now c.drop_input.new.out c.drop_input.result c.drop_input.ensures.ok c.drop_input.ensures.err
    (content_by (count_received_in c.args.self.now.plan.sn (bearer_at codec (record_of c.args.self.now) c.args.bearer)) (content_of c.args.pdu))

pub take_packet-requires-clause-of : goal.take_packet-requires-clause-of
take_packet-requires-clause-of c =
    is_of c.args.self.now c.args.bearer c.in-Some.index c.index_mut-found.result.now
    (omega (arith, c.in-Some.ensures.within.0, c.args.self.now.bearers.ok.0)) c.in-Some.ensures.within.1 c.index_mut-found.ensures.value
    c.terminal-terminal.result c.terminal-terminal.ensures c.requires.sound

pub take_report-requires : goal.take_report-requires
take_report-requires c =
    is_of c.args.self.now c.args.bearer c.in-Some.index c.index_mut-found.result.now
    (omega (arith, c.in-Some.ensures.within.0, c.args.self.now.bearers.ok.0)) c.in-Some.ensures.within.1 c.index_mut-found.ensures.value
    c.terminal-terminal.result c.terminal-terminal.ensures c.requires.sound

pub returns-in-Packet-clause-step : goal.returns-in-Packet-clause-step
returns-in-Packet-clause-step c = λ codec.
    take_packet_there c.args.self.now c.args.bearer c.in-Some.index c.index_mut-found.result.now
    (omega (arith, c.in-Some.ensures.within.0, c.args.self.now.bearers.ok.0)) c.in-Some.ensures.within.1 c.index_mut-found.ensures.value
    c.terminal-terminal.result c.terminal-terminal.ensures c.take_packet.new.self codec c.args.out.now c.take_packet.new.out c.take_packet.result
    (content_of c.args.pdu) c.in-Packet.sn c.in-Packet.packet.now (ap content_of c.in-Packet.is) (c.take_packet.ensures.step codec)

pub returns-in-Report-clause-step : goal.returns-in-Report-clause-step
returns-in-Report-clause-step c = λ codec.
    take_report_there c.args.self.now c.args.bearer c.in-Some.index c.index_mut-found.result.now
    (omega (arith, c.in-Some.ensures.within.0, c.args.self.now.bearers.ok.0)) c.in-Some.ensures.within.1 c.index_mut-found.ensures.value
    c.terminal-terminal.result c.terminal-terminal.ensures c.take_report.new.self codec c.args.out.now c.take_report.new.out c.take_report.result
    (content_of c.args.pdu) c.in-Report.fmc c.in-Report.bits.now (ap content_of c.in-Report.is) (c.take_report.ensures.step codec)
