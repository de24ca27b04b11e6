-- Codecs that read messages in the ranges of the profile, as far as a CU-UP rests on them: how many bearers a context has and how many
-- blocks each of them, and how long the bits of an SN status are. Of other messages nothing is said.
use Rattle.std.specs.Prelude.{◌≡◌, ℕ, ◌≤◌, List, length, Option, Some, None, Ok}
use Rattle.std.specs.List.{AllByRecursion}
use Rattle.gnb_types.specs.declared.names.NodeId.{NodeId}
use Rattle.gnb_types.specs.declared.plans.SnStatus.{SnStatus}
use Rattle.message_types.specs.declared.e1.E1Message.{E1Message}
use Rattle.message_types.specs.declared.e1.E1Message.TheVariants as e1s
use Rattle.unit_defs.specs.Ways.{Message, e1}
use Rattle.unit_defs.specs.CuUpBearers.{bits_in}
use Rattle.unit_defs.specs.octet_defs.Codec.{Codec}

-- INTEGER (1..8) bearers, and INTEGER (4..4096) blocks of each
pub record IsSetupInRange (count quota : ℕ) : Type 0 where
  pub some : 1 ≤ count
  pub few : count ≤ 8
  pub least : 4 ≤ quota
  pub most : quota ≤ 4096

-- BIT STRING (SIZE (1..4096)), or none
abbrev pub IsShortStatus : SnStatus → Type 0
IsShortStatus s = length (bits_in s.ul_received) ≤ 4096

abbrev pub AreShortStatuses : Option (List SnStatus) → Type 0
AreShortStatuses None = Unit {0}
AreShortStatuses (Some statuses) = AllByRecursion IsShortStatus statuses

abbrev pub IsE1InRange : E1Message → Type 0
IsE1InRange (e1s.BearerContextSetupRequest ue instance count sn quota forward) = IsSetupInRange count quota
IsE1InRange (e1s.BearerContextModificationRequest ue instance downlinks mode peer down up statuses du) = AreShortStatuses statuses
IsE1InRange message = Unit {0}

abbrev pub IsInRange : Message (List ℕ) → Type 0
IsInRange (e1 message) = IsE1InRange message
IsInRange message = Unit {0}

-- each message that it reads is in these ranges
abbrev pub ReadsInRange : Codec → Type 0
ReadsInRange codec = (from to : NodeId) (octets : List ℕ) (message : Message (List ℕ)) → codec.read from to octets ≡ Ok message → IsInRange message
