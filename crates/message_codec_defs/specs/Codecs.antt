-- The codec of version 1 of the profile: the octets of a message, and the message that octets say (ITU-T X.691; TS 38.473, 37.483, 38.423).
-- On links it reads what their layouts say (TS 29.281, TS 38.425, TS 38.323).
use Rattle.std.specs.Prelude.{List, ℕ, Option, Some, None, Result, Ok, Err}
use Rattle.gnb_types.specs.declared.names.NodeId.{NodeId}
use Rattle.gnb_types.specs.declared.names.NodeId.TheVariants.{CuCp, CuUp, Du, Core, Ue}
use Rattle.gnb_types.specs.declared.reasons.DropReason.{DropReason}
use Rattle.gnb_types.specs.declared.reasons.DropReason.TheVariants.{Unexpected}
use Rattle.message_types.specs.declared.rrc.Token.{Token}
use Rattle.unit_defs.specs.Ways.{Message, f1, e1, xn, core, rrc}
use Rattle.unit_defs.specs.octet_defs.Codec.{Codec}
use Rattle.aper_defs.specs.octet_defs.Octets.{spelled_as}
use Rattle.message_defs.specs.profile_defs.Profile.{f1_type, e1_type, xn_type, core_type, token_type}
use Rattle.message_defs.specs.F1.{written_f1, f1_from_value}
use Rattle.message_defs.specs.E1.{written_e1, e1_from_value}
use Rattle.message_defs.specs.Xn.{written_xn, xn_from_value}
use Rattle.message_defs.specs.Core.{written_core, core_from_value}
use Rattle.message_defs.specs.Tokens.{written_token, token_from_value}
use Rattle.message_octets.specs.Reading.{read_as}
use Rattle.link_defs.specs.read_defs.Items.{item_on}
use Rattle.link_defs.specs.read_defs.Pdus.{pdu_on}
use Rattle.message_codec_defs.specs.Ranges.{within_ranges}

-- ---- writing: the one spelling of what is written for a message, and none where it has no spelling
abbrev pub octets_of_message : Message (List ℕ) → List ℕ
octets_of_message (f1 message) = spelled_as f1_type (written_f1 message)
octets_of_message (e1 message) = spelled_as e1_type (written_e1 message)
octets_of_message (xn message) = spelled_as (xn_type 1) (written_xn message)
octets_of_message (core message) = spelled_as core_type (written_core message)
octets_of_message (rrc token) = spelled_as token_type (written_token token)

-- ---- reading, by the interface between two nodes
abbrev pub answered : {M : Type 0} → (M → Message (List ℕ)) → Result M DropReason
    → Result (Message (List ℕ)) DropReason
answered as_message (Ok message) = Ok (as_message message)
answered as_message (Err reason) = Err reason

abbrev pub read_between : NodeId → NodeId → List ℕ → Result (Message (List ℕ)) DropReason
read_between (CuCp g) (Du h n) octets = answered f1 (read_as f1_type f1_from_value octets)
read_between (Du h n) (CuCp g) octets = answered f1 (read_as f1_type f1_from_value octets)
read_between (CuCp g) (CuUp h n) octets = answered e1 (read_as e1_type e1_from_value octets)
read_between (CuUp h n) (CuCp g) octets = answered e1 (read_as e1_type e1_from_value octets)
read_between (CuCp g) (CuCp h) octets = answered xn (read_as (xn_type 1) xn_from_value octets)
read_between (CuCp g) Core octets = answered core (read_as core_type core_from_value octets)
read_between Core (CuCp g) octets = answered core (read_as core_type core_from_value octets)
read_between (Ue u) (Du h n) octets = answered rrc (read_as token_type token_from_value octets)
read_between (Du h n) (Ue u) octets = answered rrc (read_as token_type token_from_value octets)
read_between from to octets = Err Unexpected

abbrev pub token_of : Result Token DropReason → Option Token
token_of (Ok token) = Some token
token_of (Err reason) = None

-- ---- the codec
abbrev pub profile_codec : Codec
profile_codec = record {
  encode = octets_of_message;
  read = λ from to octets. within_ranges (read_between from to octets);
  read_token = λ octets. token_of (read_as token_type token_from_value octets);
  read_item = item_on;
  read_pdu = pdu_on;
}
