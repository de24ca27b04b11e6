use Rattle.std.proofs.Common.{◌≡◌, ◌∙◌, ap, arith, length}
use Rattle.nr_user_plane.specs.Frames.{nru_octets}
use Rattle.link_packets.proofs.Written.{frame_is_header, length-frame}
use Rattle.link_packets.proofs.writing.with_frame.Goals as goal

pub with_header-requires-clause-header : goal.with_header-requires-clause-header
with_header-requires-clause-header c = frame_is_header c.args.frame.now c.as_slice.result.now (c.as_slice.ensures ∙ c.in_ok-content.ensures)

pub with_header-requires-clause-short : goal.with_header-requires-clause-short
with_header-requires-clause-short c =
    let is : c.as_slice.result.now ≡ nru_octets c.args.frame.now = c.as_slice.ensures ∙ c.in_ok-content.ensures in
    omega (arith, ap length is, length-frame c.args.frame.now c.requires.fits)
