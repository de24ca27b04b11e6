use Rattle.proof_message_codec.proofs.link_reading.Lawful.{item_found, item_decodes, pdu_found, pdu_carried}
use Rattle.law_codecs.proofs.readers_find_what_is_said.Goals as goal

pub returns : goal.returns
returns c = record {
  items = λ link sn item octets. (item_found link sn item octets, item_decodes link sn item octets);
  pdus = λ sn content octets. (pdu_found sn content octets, pdu_carried sn octets content);
}
