use Rattle.proof_message_codec.proofs.codec.FromValue.{codec_in_range}
use Rattle.law_codecs.proofs.read_ranges.codecs_of_octets_read_in_range.Goals as goal

pub returns : goal.returns
returns c = codec_in_range
