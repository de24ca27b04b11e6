use Rattle.std.proofs.Common.{refl}
use Rattle.unit_defs.specs.octet_defs.Codec.{Codec}
use Rattle.law_codecs.proofs.Lawful.{lawful, reads_items, reads_pdus}
use Rattle.proof_message_codec.proofs.codec.FromValue.{codec_in_range}
use Rattle.law_codecs.proofs.read_ranges.codecs_of_octets_read_links.Goals as goal

abbrev with_links : Codec → Codec
with_links given = record {
  encode = given.encode;
  read = given.read;
  read_token = given.read_token;
  read_item = (lawful given).read_item;
  read_pdu = (lawful given).read_pdu;
}

pub returns : goal.returns
returns c = λ given reads. (
  with_links given,
  record { found = (reads_items given).found; none = (reads_items given).none },
  record { found = (reads_pdus given).found; none = (reads_pdus given).none },
  codec_in_range (with_links given) reads,
  (refl, refl, refl),
)
