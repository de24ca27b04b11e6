use Rattle.std.proofs.Common.{◌≡◌, ◌∙◌, ap, length, arith}
use Rattle.pdcp.specs.Pdus.{radio_data}
use Rattle.link_defs.proofs.Pdus.{length-radio_data}
use Rattle.link_packets.proofs.writing.write_f1u_downlink_packet.Goals as goal

pub with_frame-requires-clause-counted : goal.with_frame-requires-clause-counted
with_frame-requires-clause-counted c =
    let is : c.as_slice.result.now ≡ radio_data c.args.sn c.args.count c.args.packet.now = c.as_slice.ensures ∙ c.in_ok-pdu.ensures in
    omega (arith, ap length is, length-radio_data c.args.sn c.args.count c.args.packet.now, c.requires.sized.1)
