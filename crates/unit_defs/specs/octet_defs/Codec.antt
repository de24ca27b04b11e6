-- How octets are read and spelled: what the definitions of units over octets take as given. A container is the octets of a token.
use Rattle.std.specs.Prelude.{ℕ, List, Option, Some, None, Result}
use Rattle.gnb_types.specs.declared.names.NodeId.{NodeId}
use Rattle.gnb_types.specs.declared.names.SnBits.{SnBits}
use Rattle.gnb_types.specs.declared.reasons.DropReason.{DropReason}
use Rattle.message_types.specs.declared.rrc.Token.{Token}
use Rattle.pdcp.specs.Pdus.{Content, data_pdu, status_report}
use Rattle.link_defs.specs.Decoding.{Link, Item}
use Rattle.unit_defs.specs.Ways.{Message, rrc, Way}
use Rattle.unit_defs.specs.octet_defs.Writing.{pdu_octets}

pub record Codec : Type 0 where
  pub encode : Message (List ℕ) → List ℕ
  -- a message from one node to another, of the interface between them; or why its octets are dropped
  pub read : NodeId → NodeId → List ℕ → Result (Message (List ℕ)) DropReason
  -- the token in a container
  pub read_token : List ℕ → Option Token
  -- an item of a tunnel, and a PDU of a radio (TS 29.281, TS 38.425, TS 38.323)
  pub read_item : Link → SnBits → List ℕ → Option Item
  pub read_pdu : SnBits → List ℕ → Option Content

-- the number of a packet's PDU
abbrev pub number_in : Option Content → Option ℕ
number_in None = None
number_in (Some (data_pdu number packet)) = Some number
number_in (Some (status_report fmc bitmap)) = None

-- messages, containers and PDUs are octets
abbrev pub octet_way : Codec → Way (List ℕ) (List ℕ) (List ℕ)
octet_way codec = record {
  encode = codec.encode;
  wrap = λ token. codec.encode (rrc token);
  unwrap = codec.read_token;
  pass = λ octets. octets;
  write = pdu_octets;
  number = λ sn octets. number_in (codec.read_pdu sn octets);
}
