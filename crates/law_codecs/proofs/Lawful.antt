-- A codec that reads what the layouts of links say.
use Rattle.std.proofs.Common.{◌≡◌, ℕ, List, [], None}
use Rattle.std.specs.Prelude.{Ok, Err}
use Rattle.gnb_types.specs.declared.names.NodeId.{NodeId}
use Rattle.gnb_types.specs.declared.reasons.DropReason.TheVariants.{Unexpected}
use Rattle.link_defs.specs.read_defs.Pdus.{pdu_on}
use Rattle.link_defs.specs.read_defs.Items.{item_on}
use Rattle.proof_message_codec.proofs.link_reading.Lawful.{item_found, item_none, pdu_found, pdu_none}
use Rattle.unit_defs.specs.Ways.{Message}
use Rattle.unit_defs.specs.octet_defs.Codec.{Codec}
use Rattle.unit_defs.specs.codec_defs.Reading.{ReadsItems, ReadsPdus}
use Rattle.unit_defs.specs.codec_range_defs.Ranges.{IsInRange, ReadsInRange}
use Rattle.law_codecs.proofs.InRange.{read_within, within_only, within_stays}

-- a codec that reads no message
abbrev pub silent : Codec
silent = record {
  encode = λ message. [];
  read = λ from to octets. Err Unexpected;
  read_token = λ octets. None;
  read_item = λ link sn octets. None;
  read_pdu = λ sn octets. None;
}

-- it reads and spells messages as the given one, as far as they are in range
abbrev pub lawful : Codec → Codec
lawful given = record {
  encode = given.encode;
  read = λ from to octets. read_within (given.read from to octets);
  read_token = given.read_token;
  read_item = item_on;
  read_pdu = pdu_on;
}

pub reads_items : (given : Codec) → ReadsItems (lawful given)
reads_items given = record { found = item_found; none = item_none }

pub reads_pdus : (given : Codec) → ReadsPdus (lawful given)
reads_pdus given = record { found = pdu_found; none = pdu_none }

pub reads_in_range : (given : Codec) → ReadsInRange (lawful given)
reads_in_range given = λ from to octets m e. within_only (given.read from to octets) m e

pub reads_the_rest : (given : Codec) (from to : NodeId) (octets : List ℕ) (m : Message (List ℕ)) → given.read from to octets ≡ Ok m → IsInRange m
    → (lawful given).read from to octets ≡ Ok m
reads_the_rest given from to octets m e within = within_stays (given.read from to octets) m e within
