-- What two codecs read alike.
use Rattle.std.specs.Prelude.{◌≡◌, ℕ, List, Ok}
use Rattle.gnb_types.specs.declared.names.NodeId.{NodeId}
use Rattle.unit_defs.specs.Ways.{Message}
use Rattle.unit_defs.specs.octet_defs.Codec.{Codec}
use Rattle.unit_defs.specs.codec_range_defs.Ranges.{IsInRange}

-- the second reads each message of the first that is in range
abbrev pub ReadsAllInRange : Codec → Codec → Type 0
ReadsAllInRange given codec = (from to : NodeId) (octets : List ℕ) (message : Message (List ℕ)) → given.read from to octets ≡ Ok message → IsInRange message
    → codec.read from to octets ≡ Ok message
