-- Messages of E1AP in the ranges on which a CU-UP rests, as a test. The profile's types have no others, by a law: so that the codec drops
-- others changes nothing, and shows at once that what it reads is in these ranges.
use Rattle.std.specs.Prelude.{ℕ, List, length, Bool, true, ◌&&◌, nat_le, Option, Some, None, Result, Ok, Err, if◌then◌else◌}
use Rattle.std.specs.List.{list_all}
use Rattle.gnb_types.specs.declared.plans.SnStatus.{SnStatus}
use Rattle.gnb_types.specs.declared.reasons.DropReason.{DropReason}
use Rattle.gnb_types.specs.declared.reasons.DropReason.TheVariants.{Undecodable}
use Rattle.message_types.specs.declared.e1.E1Message.{E1Message}
use Rattle.message_types.specs.declared.e1.E1Message.TheVariants as e1s
use Rattle.unit_defs.specs.Ways.{Message, e1}
use Rattle.unit_defs.specs.CuUpBearers.{bits_in}

abbrev pub is_short : SnStatus → Bool
is_short s = nat_le (length (bits_in s.ul_received)) 4096

abbrev pub are_short : Option (List SnStatus) → Bool
are_short None = true
are_short (Some statuses) = list_all is_short statuses

abbrev pub is_in_range : E1Message → Bool
is_in_range (e1s.BearerContextSetupRequest ue instance count sn quota forward) =
    nat_le 1 count && nat_le count 8 && nat_le 4 quota && nat_le quota 4096
is_in_range (e1s.BearerContextModificationRequest ue instance downlinks mode peer down up statuses du) = are_short statuses
is_in_range message = true

abbrev pub within_ranges : Result (Message (List ℕ)) DropReason → Result (Message (List ℕ)) DropReason
within_ranges (Ok (e1 message)) = if is_in_range message then Ok (e1 message) else Err Undecodable
within_ranges read = read
