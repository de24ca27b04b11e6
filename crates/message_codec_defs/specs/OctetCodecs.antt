-- Codecs that read as messages of E1AP what octets say in the profile.
use Rattle.std.specs.Prelude.{◌≡◌, ℕ, List, Ok}
use Rattle.gnb_types.specs.declared.names.NodeId.{NodeId}
use Rattle.message_types.specs.declared.e1.E1Message.{E1Message}
use Rattle.unit_defs.specs.Ways.{e1}
use Rattle.unit_defs.specs.octet_defs.Codec.{Codec}
use Rattle.aper_defs.specs.Values.{Value}
use Rattle.aper_defs.specs.Reading.{decoded}
use Rattle.message_defs.specs.profile_defs.Profile.{e1_type}
use Rattle.message_defs.specs.E1.{e1_from_value}

-- the octets say this message: it is heard in the value that they spell
abbrev pub SaysInOctets : List ℕ → E1Message → Type 0
SaysInOctets octets message = (v : Value) × (decoded e1_type octets ≡ Ok v) × (e1_from_value v ≡ Ok message)

-- a message of E1AP is one that the octets say; of other messages nothing is asked
abbrev pub ReadsOctets : Codec → Type 0
ReadsOctets codec = (from to : NodeId) (octets : List ℕ) (message : E1Message) → codec.read from to octets ≡ Ok (e1 message)
    → SaysInOctets octets message
