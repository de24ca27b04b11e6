-- Why octets are no frame, and the frame that they are where no reason applies, by the places of the fields.
use Rattle.std.specs.Prelude.{◌≡◌, ℕ, ◌+◌, ◌*◌, ◌/◌, ◌%◌, ◌==◌, Bool, true, false, ◌&&◌, ◌||◌, not, if◌then◌else◌, nat_le, ◌<◌, zero, suc, Option, Some, None, List, [], ◌∷◌, length, drop, slice_index}
use Rattle.std.specs.List.{list_all}
use Rattle.gnb_types.specs.Refusals.{Condition, IsFirst}
use Rattle.nr_user_plane.specs.declared.frames.Frame.{Frame}
use Rattle.nr_user_plane.specs.declared.frames.Frame.TheVariants.{Data, Status}
use Rattle.nr_user_plane.specs.declared.frames.FrameError.{FrameError}
use Rattle.nr_user_plane.specs.declared.frames.FrameError.TheVariants as reasons
use Rattle.nr_user_plane.specs.Frames.{number24}

-- The high half of the first octet is the kind of frame. In a status its lowest bit says that there are lost ranges, and
-- its third lowest that there is a delivered number.
abbrev pub kind : List ℕ → ℕ
kind octets = slice_index octets 0 / 16

abbrev pub has_lost : ℕ → Bool
has_lost first = first % 2 == 1

abbrev pub has_delivered : ℕ → Bool
has_delivered first = first / 4 % 2 == 1

-- numbers at a place
abbrev pub number24_at : List ℕ → ℕ → ℕ
number24_at octets place = number24 (slice_index octets place) (slice_index octets (place + 1)) (slice_index octets (place + 2))

abbrev pub number32_at : List ℕ → ℕ → ℕ
number32_at octets place = number24_at octets place * 256 + slice_index octets (place + 3)

-- Of a status, with its first octet and the fields after the desired buffer size: how many octets the lost ranges take
-- with their count, and the delivered number.
abbrev pub lost_len : ℕ → List ℕ → ℕ
lost_len first fields = if has_lost first then 1 + 6 * slice_index fields 0 else 0

abbrev pub delivered_len : ℕ → ℕ
delivered_len first = if has_delivered first then 3 else 0

-- that many pairs of numbers of three octets
abbrev pub pairs_at : ℕ → List ℕ → List (ℕ × ℕ)
pairs_at zero octets = []
pairs_at (suc count) octets = (number24_at octets 0, number24_at octets 3) ∷ pairs_at count (drop 6 octets)

-- the lost ranges
abbrev pub lost_at : ℕ → List ℕ → List (ℕ × ℕ)
lost_at first fields = if has_lost first then pairs_at (slice_index fields 0) (drop 1 fields) else []

-- each range begins above the end of the one before it, and not above its own end
abbrev pub are_apart : ℕ → List (ℕ × ℕ) → Bool
are_apart least [] = true
are_apart least (range ∷ ranges) = nat_le least range.0 && (nat_le range.0 range.1 && are_apart (range.1 + 1) ranges)

-- there are none, or one to seven, and apart
abbrev pub is_good_lost : ℕ → List ℕ → Bool
is_good_lost first fields = not (has_lost first)
    || ((nat_le 1 (slice_index fields 0) && nat_le (slice_index fields 0) 7) && are_apart 0 (lost_at first fields))

-- the delivered number, after the lost ranges
abbrev pub delivered_at : ℕ → List ℕ → Option ℕ
delivered_at first fields = if has_delivered first then Some (number24_at fields (lost_len first fields)) else None

-- where the fields of a frame end
abbrev pub fields_end : List ℕ → ℕ
fields_end octets = if kind octets == 0 then 5
    else 6 + (lost_len (slice_index octets 0) (drop 6 octets) + delivered_len (slice_index octets 0))

abbrev pub has_good_ranges : List ℕ → Bool
has_good_ranges octets = if kind octets == 0 then true else is_good_lost (slice_index octets 0) (drop 6 octets)

-- at most three zeros
abbrev pub is_padding : List ℕ → Bool
is_padding octets = nat_le (length octets) 3 && list_all (λ octet. octet == 0) octets

-- each bit of the first two octets that means nothing in this kind of frame is 0
abbrev pub is_clear_data : ℕ → ℕ → Bool
is_clear_data first second = (first / 2 % 8 == 0) && (second / 2 == 0)

abbrev pub is_clear_status : ℕ → ℕ → Bool
is_clear_status first second = ((first / 2 % 2 == 0) && (first / 8 % 2 == 0)) && (second == 0)

abbrev pub has_clear_spares : List ℕ → Bool
has_clear_spares octets = if kind octets == 0
    then is_clear_data (slice_index octets 0) (slice_index octets 1)
    else is_clear_status (slice_index octets 0) (slice_index octets 1)

-- The reasons, in the order in which they are looked at.
abbrev pub refusals : List ℕ → List (Condition FrameError)
refusals octets =
    (reasons.Truncated, length octets ≡ 0)
    ∷ (reasons.Kind, 1 < kind octets)
    ∷ (reasons.Truncated, length octets < fields_end octets)
    ∷ (reasons.Ranges, has_good_ranges octets ≡ false)
    ∷ (reasons.Spare, (has_clear_spares octets && is_padding (drop (fields_end octets) octets)) ≡ false)
    ∷ []

-- the reason for which the octets are refused
abbrev pub IsRefusal : FrameError → List ℕ → Type 0
IsRefusal reason octets = IsFirst (refusals octets) reason

-- the frame at the places of its fields
abbrev pub frame_at : List ℕ → Frame
frame_at octets = if kind octets == 0
    then Data (slice_index octets 0 % 2 == 1) (slice_index octets 1 % 2 == 1) (number24_at octets 2)
    else Status (number32_at octets 2) (lost_at (slice_index octets 0) (drop 6 octets)) (delivered_at (slice_index octets 0) (drop 6 octets))
