-- Internal: the reasons to refuse octets as tests, and what the readers of a frame and of its parts answer by them.
use Rattle.std.specs.Prelude.{◌≡◌, ℕ, ◌+◌, ◌*◌, ◌==◌, Result, Ok, Err, Bool, true, false, ◌&&◌, not, if◌then◌else◌, nat_lt, Option, Some, None, List, [], ◌∷◌, length, drop, slice_index}
use Rattle.std.specs.Borrow.{Bor}
use Rattle.gnb_types.specs.Refusals.{first_reason}
use Rattle.nr_user_plane.specs.declared.frames.Frame.{Frame}
use Rattle.nr_user_plane.specs.declared.frames.Frame.TheVariants.{Status}
use Rattle.nr_user_plane.specs.declared.frames.FrameError.{FrameError}
use Rattle.nr_user_plane.specs.declared.frames.FrameError.TheVariants as reasons
use Rattle.nr_user_plane.specs.Reasons.{kind, fields_end, has_good_ranges, has_clear_spares, is_clear_status, is_padding, pairs_at, are_apart, is_good_lost, lost_at, lost_len, delivered_at, delivered_len, frame_at}

abbrev pub tests : List ℕ → List (Bool × FrameError)
tests octets =
    (length octets == 0, reasons.Truncated)
    ∷ (nat_lt 1 (kind octets), reasons.Kind)
    ∷ (nat_lt (length octets) (fields_end octets), reasons.Truncated)
    ∷ (not (has_good_ranges octets), reasons.Ranges)
    ∷ (not (has_clear_spares octets && is_padding (drop (fields_end octets) octets)), reasons.Spare)
    ∷ []

-- an answer of a reader: the frame where no reason applies, else the first reason
abbrev pub Answers : List ℕ → Result Frame FrameError → Type 0
Answers octets (Ok frame) = (first_reason (tests octets) ≡ None) × (frame ≡ frame_at octets)
Answers octets (Err reason) = first_reason (tests octets) ≡ Some reason

-- The ranges and the octets after them, where they are apart, else the reason.
abbrev pub AnswersPairs : ℕ → List ℕ → Result (List (ℕ × ℕ) × Bor (List ℕ)) FrameError → Type 0
AnswersPairs count octets (Ok read) = (are_apart 0 (pairs_at count octets) ≡ true)
    × (read.0 ≡ pairs_at count octets) × (read.1.now ≡ drop (6 * count) octets)
AnswersPairs count octets (Err reason) = (are_apart 0 (pairs_at count octets) ≡ false)
    × (reason ≡ reasons.Ranges)

-- The same of the lost ranges of a status.
abbrev pub AnswersLost : ℕ → List ℕ → Result (List (ℕ × ℕ) × Bor (List ℕ)) FrameError → Type 0
AnswersLost first fields (Ok read) = (is_good_lost first fields ≡ true)
    × (read.0 ≡ lost_at first fields) × (read.1.now ≡ drop (lost_len first fields) fields)
AnswersLost first fields (Err reason) = (is_good_lost first fields ≡ false)
    × (reason ≡ reasons.Ranges)

-- Which reason applies first to a status with all of its first six octets, and the answer of a reader of its fields.
abbrev pub status_reason : ℕ → ℕ → List ℕ → Option FrameError
status_reason first second fields =
    if nat_lt (length fields) (lost_len first fields + delivered_len first) then Some reasons.Truncated
    else if not (is_good_lost first fields) then Some reasons.Ranges
    else if not (is_clear_status first second && is_padding (drop (lost_len first fields + delivered_len first) fields)) then Some reasons.Spare
    else None

abbrev pub AnswersStatus : ℕ → ℕ → ℕ → List ℕ → Result Frame FrameError → Type 0
AnswersStatus first second room fields (Ok frame) =
    (status_reason first second fields ≡ None)
    × (frame ≡ Status room (lost_at first fields) (delivered_at first fields))
AnswersStatus first second room fields (Err reason) = status_reason first second fields ≡ Some reason
