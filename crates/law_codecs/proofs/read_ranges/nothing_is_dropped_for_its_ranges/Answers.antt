use Rattle.proof_message_codec.proofs.codec.Kept.{stays}
use Rattle.law_codecs.proofs.read_ranges.nothing_is_dropped_for_its_ranges.Goals as goal

pub returns : goal.returns
returns c = stays
