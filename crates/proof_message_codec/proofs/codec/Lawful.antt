-- The codec is one that units rest on: it reads items and PDUs as the layouts of links say, and messages in their ranges.
use Rattle.proof_message_codec.proofs.link_reading.Lawful.{item_found, item_none, pdu_found, pdu_none}
use Rattle.unit_defs.specs.codec_defs.Reading.{ReadsItems, ReadsPdus}
use Rattle.unit_defs.specs.codec_range_defs.Ranges.{ReadsInRange}
use Rattle.message_codec_defs.specs.Codecs.{read_between, profile_codec}
use Rattle.proof_message_codec.proofs.codec.Ranges.{within_only}

pub items_are_read : ReadsItems profile_codec
items_are_read = record { found = item_found; none = item_none }

pub pdus_are_read : ReadsPdus profile_codec
pdus_are_read = record { found = pdu_found; none = pdu_none }

pub messages_are_in_range : ReadsInRange profile_codec
messages_are_in_range = λ from to octets message e. within_only (read_between from to octets) message e
