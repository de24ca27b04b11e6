-- Internal: octets that are read as a message, and are the spelling of it.
use Rattle.std.specs.Prelude.{◌≡◌, ℕ, List, Ok}
use Rattle.gnb_types.specs.declared.names.NodeId.{NodeId}
use Rattle.gnb_types.specs.declared.names.NodeId.TheVariants.{CuCp, CuUp, Du, Core, Ue}
use Rattle.gnb_types.specs.declared.names.Gnb.TheVariants.{A}
use Rattle.unit_defs.specs.Ways.{Message}
use Rattle.message_codec_defs.specs.Codecs.{octets_of_message, profile_codec}

pub record IsSpelledBetween (from to : NodeId) (octets : List ℕ) : Type 0 where
  pub message : Message (List ℕ)
  pub read : profile_codec.read from to octets ≡ Ok message
  pub spelled : octets_of_message message ≡ octets

-- between two nodes of each interface
pub data IsSpelledSomewhere (octets : List ℕ) : Type 0 where
  OnF1 : IsSpelledBetween (CuCp A) (Du A 1) octets → IsSpelledSomewhere octets
  OnE1 : IsSpelledBetween (CuCp A) (CuUp A 1) octets → IsSpelledSomewhere octets
  OnXn : IsSpelledBetween (CuCp A) (CuCp A) octets → IsSpelledSomewhere octets
  WithCore : IsSpelledBetween (CuCp A) Core octets → IsSpelledSomewhere octets
  OnRadio : IsSpelledBetween (Ue 1) (Du A 1) octets → IsSpelledSomewhere octets
