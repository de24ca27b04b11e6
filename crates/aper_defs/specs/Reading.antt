-- The questions put to octets, in order, and the first field that is wrong. How wide a field is comes first; then whether it passes an
-- end; then one judgement for each kind of question.
use Rattle.std.specs.Prelude.{ℕ, ◌+◌, ◌-◌, ◌*◌, ◌^◌, ◌==◌, List, [], ◌∷◌, length, drop, take as first, replicate, Bool, true, false, ◌&&◌, Option, Some, None, Result, Ok, Err, nat_lt, nat_le, if◌then◌else◌}
use Rattle.bits_core.specs.Bits.{number_of, numbers_at, octet_bits, pad_of}
use Rattle.asn1_syntax.specs.declared.types.definition.Size.{Size}
use Rattle.aper_defs.specs.declared.reason.Reason.{Reason}
use Rattle.aper_defs.specs.declared.reason.Reason.TheVariants as reasons
use Rattle.aper_defs.specs.Trees.{Tree, has_slot, slots_before, slots_left, mandatory_count}
use Rattle.aper_defs.specs.Values.{Value}
use Rattle.aper_defs.specs.Numbers.{signed_octets_for, signed_number, in_range}
use Rattle.aper_defs.specs.Fields.{Path, Role, Extent, Ask, RunUnit, Field, flag, constrained, digits, signed, small, extent, addition_bits, character, ie_count, ie_id, pad, opening, closing, end, whole, part, asked, run as run_field}
use Rattle.aper_defs.specs.Fields as fields
use Rattle.aper_defs.specs.Bits.{part_units, width_at, unit_width}
use Rattle.aper_defs.specs.Parts.{in_size}
use Rattle.aper_defs.specs.Membership.{is_printable}
use Rattle.aper_defs.specs.Questions.{Prog, done, ask, take, never}
use Rattle.aper_defs.specs.Asking.{asks_whole}

-- an open type around a place: where its contents begin, and where they end
pub record Opened : Type 0 where
  pub start : ℕ
  pub finish : ℕ

-- a place in the bits of octets, and the open types around it, the innermost first
pub record Cursor : Type 0 where
  pub octets : List ℕ
  pub place : ℕ
  pub opens : List Opened

abbrev pub at_first : List ℕ → Cursor
at_first octets = record { octets = octets; place = 0; opens = [] }

abbrev pub bits_at : Cursor → List Bool
bits_at c = drop c.place (octet_bits c.octets)

-- where the encoding around a place begins
abbrev pub start_of : List Opened → ℕ
start_of [] = 0
start_of (o ∷ opens) = o.start

-- whether the innermost open type ends at a place
abbrev pub ends_at : ℕ → List Opened → Bool
ends_at place [] = false
ends_at place (o ∷ opens) = place == o.finish

abbrev pub outer : List Opened → List Opened
outer [] = []
outer (o ∷ opens) = opens

-- A length determinant has two octets where its bits begin with 10.
abbrev pub told_width : List Bool → ℕ
told_width (true ∷ false ∷ bits) = 16
told_width bits = 8

-- how many bits the answer to a question has
abbrev pub asked_width : Ask → Cursor → ℕ
asked_width (extent bounds) c = told_width (bits_at c)
asked_width opening c = told_width (bits_at c)
asked_width closing c = if c.place == start_of c.opens then 8 else pad_of c.place
asked_width question c = width_at c.place question 0

-- the greatest number of bits of an encoding
abbrev pub bit_limit : ℕ
bit_limit = 1048576

-- the place lies past none of their ends
abbrev pub is_within : ℕ → List Opened → Bool
is_within place [] = true
is_within place (o ∷ opens) = nat_le place o.finish && is_within place opens

-- what so many bits pass
abbrev pub passes : Cursor → ℕ → Option Reason
passes c width =
    if is_within (c.place + width) c.opens
    then (if nat_lt bit_limit (c.place + width) then Some reasons.TooLong
    else if nat_lt (8 * length c.octets) (c.place + width) then Some reasons.Truncated
    else None)
    else Some reasons.Overrun

abbrev pub too_great : Role → Reason
too_great fields.value = reasons.Range
too_great fields.index = reasons.Index
too_great fields.length = reasons.Length

abbrev pub unless : Bool → Reason → Option Reason
unless true reason = None
unless false reason = Some reason

-- the forms of a length determinant: an octet, two octets, or so many times 16,384 units
pub data Form : Type 0 where
  octet_form : (n : ℕ) → Form
  two_octets : (n : ℕ) → Form
  units_form : (count : ℕ) → Form

abbrev pub form_of : ℕ → Form
form_of m = if nat_lt m 128 then octet_form m else if nat_lt m 256 then units_form (m - 192) else two_octets (m - 32768)

abbrev pub told : Form → ℕ
told (octet_form n) = n
told (two_octets n) = n
told (units_form count) = part_units * count

-- the number is in the root of a size
abbrev pub is_inside : Option Size → ℕ → Bool
is_inside None n = false
is_inside (Some size) n = in_size size n

abbrev pub judged_length : (is_minimal : Bool) → ℕ → ℕ → ℕ → Option Reason
judged_length false least most n = Some reasons.NotMinimal
judged_length true least most n = unless (nat_le least n && nat_le n most) reasons.Length

abbrev pub judged_extent : Extent → Form → Option Reason
judged_extent (whole least most outside) (octet_form n) = judged_length (if is_inside outside n then false else true) least most n
judged_extent (whole least most outside) (two_octets n) = judged_length
    (nat_le 128 n && (if is_inside outside n then false else true)) least most n
judged_extent (whole least most outside) (units_form count) = Some reasons.Length
judged_extent (part before previous outside) (octet_form n) = unless
    (if is_inside outside (before + n) then false else true) reasons.NotMinimal
judged_extent (part before previous outside) (two_octets n) = unless
    (nat_le 128 n && (if is_inside outside (before + n) then false else true)) reasons.NotMinimal
judged_extent (part before previous outside) (units_form count) = judged_length (nat_le (4 * part_units) previous) 1 4 count

-- why the number that stands at a place is no answer
abbrev pub judged : Ask → Cursor → ℕ → Option Reason
judged flag c m = None
judged (constrained role width most) c m = unless (nat_le m most) (too_great role)
judged (digits count most) c m =
    if nat_lt 1 count && nat_lt m (2 ^ (8 * (count - 1))) then Some reasons.NotMinimal else unless (nat_le m most) reasons.Range
judged (signed count low high) c m =
    unless (nat_le count (signed_octets_for (signed_number count m)) &&
    (if in_range low high (signed_number count m) then false else true)) reasons.NotMinimal
judged (small role) c m = unless (nat_lt m 64) (too_great role)
judged (extent bounds) c m = judged_extent bounds (form_of m)
judged (addition_bits count) c m = unless (nat_lt 0 m) reasons.EmptyAdditions
judged character c m = unless (is_printable m) reasons.Character
judged (ie_count least) c m = unless (nat_le least m) reasons.Required
judged (ie_id known left after) c m =
    if has_slot m known && (if has_slot m left then false else true) then Some reasons.Order
    else unless ((if has_slot m known then mandatory_count (slots_before m left) == 0 else true) && nat_le
    (mandatory_count (slots_left known m left)) after) reasons.Required
judged pad c m = unless (m == 0) reasons.Padding
judged opening c m = judged_extent (whole 1 16383 None) (form_of m)
judged closing c m = unless (m == 0) reasons.Padding
judged end c m = unless (ends_at c.place c.opens) reasons.Tail

abbrev pub answer_of : Ask → Cursor → ℕ → ℕ
answer_of (extent bounds) c m = told (form_of m)
answer_of opening c m = told (form_of m)
answer_of closing c m = if c.place == start_of c.opens then 1 else 0
answer_of question c m = m

abbrev pub answered : Ask → Cursor → ℕ → Option Reason → Result ℕ Reason
answered question c m None = Ok (answer_of question c m)
answered question c m (Some reason) = Err reason

abbrev pub read_within : Ask → Cursor → Option Reason → Result ℕ Reason
read_within question c None =
    let m = number_of (first (asked_width question c) (bits_at c)) in answered question c m (judged question c m)
read_within question c (Some reason) = Err reason

-- the answer that stands at a place
unfoldable pub read : Ask → Cursor → Result ℕ Reason
read question c = read_within question c (passes c (asked_width question c))

-- the open types around the place after an answer
abbrev pub opens_after : Ask → ℕ → ℕ → List Opened → List Opened
opens_after opening n place opens = record { start = place; finish = place + 8 * n } ∷ opens
opens_after end n place opens = outer opens
opens_after question n place opens = opens

-- the place after an answer, and after a field
abbrev pub answered_at : Ask → ℕ → Cursor → Cursor
answered_at question n c =
    let place = c.place + width_at c.place question n in
    record { octets = c.octets; place = place; opens = opens_after question n place c.opens }

abbrev pub moved_by : ℕ → Cursor → Cursor
moved_by width c = record { octets = c.octets; place = c.place + width; opens = c.opens }

abbrev pub after_field : Field → Cursor → Cursor
after_field (asked path question n) c = answered_at question n c
after_field (run_field path unit units) c = moved_by (unit_width unit * length units) c

-- units as they stand
abbrev pub units_within : RunUnit → ℕ → Cursor → Option Reason → Result (List ℕ) Reason
units_within unit count c None = Ok (numbers_at (replicate count (unit_width unit)) (bits_at c))
units_within unit count c (Some reason) = Err reason

unfoldable pub read_units : RunUnit → ℕ → Cursor → Result (List ℕ) Reason
read_units unit count c = units_within unit count c (passes c (unit_width unit * count))

-- the first wrong field: the number of its first bit, from 0, why, and the way to the value whose type gives it
pub record Fault : Type 0 where
  pub bit : ℕ
  pub reason : Reason
  pub path : Path

-- on after an answer, or not
abbrev pub goes_on : {A B : Type 0} → Path → Cursor → Result A Reason → (A → Result B Fault) → Result B Fault
goes_on p c (Ok x) K = K x
goes_on p c (Err reason) K = Err (record { bit = c.place; reason = reason; path = p })

-- the value that the octets from a place on give, and the place after it
unfoldable pub run : Prog → Cursor → Result (Value × Cursor) Fault
run (done v) c = Ok (v, c)
run (ask p question next) c = goes_on p c (read question c) (λ n. run (next n) (answered_at question n c))
run (take p unit count next) c =
    goes_on p c (read_units unit count c) (λ units. run (next units) (moved_by (unit_width unit * count) c))
run never c = Err (record { bit = c.place; reason = reasons.Index; path = [] })

-- the value, where nothing comes after it
abbrev pub only : Result (Value × Cursor) Fault → Result Value Fault
only (Ok (v, c)) = if c.place == 8 * length c.octets then Ok v else Err (record { bit = c.place; reason = reasons.Tail; path = [] })
only (Err fault) = Err fault

abbrev pub decoded : Tree → List ℕ → Result Value Fault
decoded t octets = only (run (asks_whole t) (at_first octets))
