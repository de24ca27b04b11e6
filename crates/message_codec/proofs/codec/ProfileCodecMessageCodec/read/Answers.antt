use Rattle.std.proofs.Common.{sym}
use Rattle.message_codec_defs.specs.Codecs.{read_between}
use Rattle.message_codec_defs.specs.Ranges.{within_ranges}
use Rattle.proof_message_codec.proofs.codec.Kept.{stays}
use Rattle.unit_messages.specs.Messages.{answer_as}
use Rattle.message_codec.proofs.Results.{of_equal}
use Rattle.message_codec.proofs.codec.ProfileCodecMessageCodec.read.Goals as goal

pub returns : goal.returns
returns c =
    let read = read_between c.args.from c.args.to c.args.octets.now in
    of_equal c.read_between.result answer_as read (within_ranges read) (sym (stays c.args.from c.args.to c.args.octets.now)) c.read_between.ensures
