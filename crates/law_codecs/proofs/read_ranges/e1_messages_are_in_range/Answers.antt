use Rattle.proof_message_codec.proofs.codec.FromValue.{from_value_in_range, said_in_range}
use Rattle.law_codecs.proofs.read_ranges.e1_messages_are_in_range.Goals as goal

pub returns : goal.returns
returns c = record {
  from_value = from_value_in_range;
  said = said_in_range;
}
