use Rattle.std.proofs.Common.{sym, ap, ◌∙◌, arith}
use Rattle.unit_defs.specs.Ue.{UeNode}
use Rattle.unit_messages.specs.steps.Steps.{stepped}
use Rattle.pdcp.specs.Pdus.{content_of}
use Rattle.unit_defs.specs.octet_defs.Reading.{content_by, count_confirmed_in, bearer_at}
use Rattle.ue_node.specs.rows.Records.{record_of}
use Rattle.ue_node.proofs.rows.AtBearer.{is_of, confirm_none, confirm_there, confirm_report_there, unchanged}
use Rattle.ue_node.proofs.rows.record.UeRecord.confirm.Goals as goal

pub returns-in_default-clause-step : goal.returns-in_default-clause-step
returns-in_default-clause-step c = λ codec.
    confirm_none c.args.self.now c.args.bearer c.len.result (omega (arith, c.args.self.now.bearers.ok.0)) c.in_default.ensures.none codec
    c.args.out.now c.drop_input.new.out c.drop_input.result c.drop_input.ensures.ok c.drop_input.ensures.err
    (content_by (count_confirmed_in c.args.self.now.plan.sn (bearer_at codec (record_of c.args.self.now) c.args.bearer)) (content_of c.args.pdu))

pub confirm-requires : goal.confirm-requires
confirm-requires c =
    is_of c.args.self.now c.args.bearer c.in-Some.index c.index_mut-found.result.now
    (omega (arith, c.in-Some.ensures.within.0, c.args.self.now.bearers.ok.0)) c.in-Some.ensures.within.1 c.index_mut-found.ensures.value
    c.terminal-terminal.result c.terminal-terminal.ensures c.requires

pub returns-in-Packet-clause-step : goal.returns-in-Packet-clause-step
returns-in-Packet-clause-step c = λ codec.
    confirm_there c.args.self.now c.args.bearer c.in-Some.index c.index_mut-found.result.now
    (omega (arith, c.in-Some.ensures.within.0, c.args.self.now.bearers.ok.0)) c.in-Some.ensures.within.1 c.index_mut-found.ensures.value
    c.terminal-terminal.result c.terminal-terminal.ensures c.confirm.new.self codec c.args.out.now c.confirm.new.out c.confirm.result
    (content_of c.args.pdu) c.in-Packet.sn c.in-Packet.packet.now (ap content_of c.in-Packet.is) (c.confirm.ensures.step codec c.in-Packet.packet.now)

pub returns-in-Report-clause-step : goal.returns-in-Report-clause-step
returns-in-Report-clause-step c = λ codec.
    confirm_report_there c.args.self.now c.args.bearer c.in-Some.index c.index_mut-found.result.now
    (omega (arith, c.in-Some.ensures.within.0, c.args.self.now.bearers.ok.0)) c.in-Some.ensures.within.1 c.index_mut-found.ensures.value codec c.args.out.now
    (content_of c.args.pdu) c.in-Report.fmc c.in-Report.bits.now (ap content_of c.in-Report.is)
    ∙ ap (λ (w : UeNode). stepped c.args.out.now w)
    (sym (unchanged c.args.self.now c.args.bearer c.in-Some.index c.index_mut-found.result.now
    (omega (arith, c.in-Some.ensures.within.0, c.args.self.now.bearers.ok.0)) c.in-Some.ensures.within.1 c.index_mut-found.ensures.value))
