-- Of a status with all of its first six octets, which reason applies first.
use Rattle.std.proofs.Common.{◌≡◌, ℕ, ◌+◌, ◌≤◌, ◌==◌, nat_lt, None, List, [], ◌∷◌, length, drop, slice_index, false, suc, inl, inr, refl, sym, ◌∙◌, ap, arith, Result, Ok, Err}
use Rattle.nr_user_plane.specs.declared.frames.Frame.{Frame}
use Rattle.nr_user_plane.specs.declared.frames.Frame.TheVariants.{Status}
use Rattle.std.proofs.lemmas.Bool.{cases_lt}
use Rattle.nr_user_plane.specs.declared.frames.FrameError.{FrameError}
use Rattle.gnb_types.specs.Refusals.{first_reason}
use Rattle.nr_user_plane.specs.Reasons.{kind, lost_len, delivered_len, lost_at, delivered_at, number32_at}
use Rattle.nr_user_plane.specs.Tests.{tests, status_reason, Answers, AnswersStatus}

-- the tests on all octets are those on the fields
shorter : (m n : ℕ) → nat_lt (6 + m) (6 + n) ≡ nat_lt m n
shorter m n = elim (cases_lt m n) [ inl less ↦ grind arith | inr more ↦ grind arith ]

pub first_reason-status : (octets : List ℕ) → kind octets ≡ 1 → 6 ≤ length octets
    → first_reason (tests octets) ≡ status_reason (slice_index octets 0) (slice_index octets 1) (drop 6 octets)
first_reason-status [] status long = absurd (omega arith)
first_reason-status (a ∷ []) status long = absurd (omega arith)
first_reason-status (a ∷ b ∷ []) status long = absurd (omega arith)
first_reason-status (a ∷ b ∷ c ∷ []) status long = absurd (omega arith)
first_reason-status (a ∷ b ∷ c ∷ d ∷ []) status long = absurd (omega arith)
first_reason-status (a ∷ b ∷ c ∷ d ∷ e ∷ []) status long = absurd (omega arith)
first_reason-status (a ∷ b ∷ c ∷ d ∷ e ∷ f ∷ fields) status long =
    let octets : List ℕ = a ∷ b ∷ c ∷ d ∷ e ∷ f ∷ fields in
    let n = lost_len a fields + delivered_len a in
    let len : length octets ≡ 6 + length fields = omega arith in
    let some : (6 + length fields == 0) ≡ false = grind arith in
    let end : 6 + n ≡ suc (suc (suc (suc (suc (suc n))))) = omega arith in
    let rest : drop (6 + n) octets ≡ drop n fields = ap (λ m. drop m octets) end in
    rw (status, len, some, shorter (length fields) n, rest) refl

-- the answer of a reader of the fields is one of a reader of all octets
pub answers_status : (octets fields : List ℕ) (room : ℕ) (result : Result Frame FrameError) → kind octets ≡ 1 → 6 ≤ length octets
    → fields ≡ drop 6 octets → room ≡ number32_at octets 2
    → AnswersStatus (slice_index octets 0) (slice_index octets 1) room fields result → Answers octets result
answers_status octets fields room (Err reason) status long fields_is room_is h =
    first_reason-status octets status long ∙ rw fields_is at h
answers_status octets fields room (Ok frame) status long fields_is room_is h =
    let none : status_reason (slice_index octets 0) (slice_index octets 1) (drop 6 octets) ≡ None = rw (← fields_is) h.0 in
    let frame_is : frame ≡ Status (number32_at octets 2) (lost_at (slice_index octets 0) (drop 6 octets)) (delivered_at (slice_index octets 0) (drop 6 octets)) =
    rw (← fields_is, ← room_is) h.1 in
    (first_reason-status octets status long ∙ none, frame_is ∙ sym (rw status refl))
