use Rattle.std.proofs.Common.{◌≡◌, ◌∙◌, ap, length, arith}
use Rattle.pdcp.specs.Pdus.{report_octets}
use Rattle.link_packets.proofs.Written.{length-report_octets}
use Rattle.link_packets.proofs.writing.write_f1u_downlink_report.Goals as goal

pub with_frame-requires-clause-counted : goal.with_frame-requires-clause-counted
with_frame-requires-clause-counted c =
    let is : c.as_slice.result.now ≡ report_octets c.args.fmc c.args.bits.now = c.as_slice.ensures ∙ c.in_ok-pdu.ensures in
    omega (arith, ap length is, length-report_octets c.args.fmc c.args.bits.now, c.requires.few)
