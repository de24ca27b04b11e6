-- What is so of the answers to a question, whatever octets they stand in.
use Rattle.std.proofs.Common.{◌≡◌, ℕ, ◌*◌, ◌^◌, ◌<◌, ◌≤◌, ◌==◌, cond, true, Option, Ok, subst, arith}
use Rattle.asn1_syntax.specs.declared.types.definition.Size.{Size}
use Rattle.aper_defs.specs.Numbers.{signed_octets_for, signed_number}
use Rattle.aper_defs.specs.Fields.{Ask, flag, constrained, digits, signed, small, extent, addition_bits, character, ie_count, ie_id, pad, opening, closing, end, whole, part}
use Rattle.aper_defs.specs.Bits.{part_units}
use Rattle.aper_defs.specs.Membership.{is_printable}
use Rattle.aper_defs.specs.Reading.{Cursor, start_of, read}
use Rattle.proof_aper.proofs.answers.NumberFacts.{by_cases}
use Rattle.proof_aper.proofs.values.Found.{Answered, answer_read}
use Rattle.proof_aper.proofs.values.FoundNumbers.{flag_read, pad_read, constrained_read, small_read, IsDigits, digits_read}
use Rattle.proof_aper.proofs.values.FoundExtents.{IsLength, whole_read, opening_read, PartLength, last, more, part_read}
use Rattle.proof_aper.proofs.values.FoundIndices.{IsOutside, signed_read}
use Rattle.proof_aper.proofs.values.FoundStrings.{character_read}
use Rattle.proof_aper.proofs.values.FoundElements.{SomeBits, bits_read, IsNext, id_read, count_read}
use Rattle.proof_aper.proofs.values.FoundOpen.{end_read}

-- the length of a part: the last one, or up to four times so many units, after a part of as many
pub data IsPart (previous n : ℕ) : Type 0 where
  few : n < 16384 → IsPart previous n
  full : (count : ℕ) → n ≡ part_units * count → 1 ≤ count → count ≤ 4 → 65536 ≤ previous → IsPart previous n

pub record IsSigned (count n : ℕ) : Type 0 where
  pub least : count ≤ signed_octets_for (signed_number count n)
  pub fits : n < 2 ^ (8 * count)

abbrev pub Allowed : Ask → ℕ → Type 0
Allowed flag n = n < 2
Allowed (constrained role width most) n = n ≤ most
Allowed (digits count most) n = IsDigits count most n
Allowed (signed count low high) n = IsSigned count n
Allowed (small role) n = n < 64
Allowed (extent (whole least most outside)) n = (least ≤ n) × (n ≤ most)
Allowed (extent (part before previous outside)) n = IsPart previous n
Allowed (addition_bits count) n = SomeBits count n
Allowed character n = is_printable n ≡ true
Allowed (ie_count least) n = (least ≤ n) × (n < 65536)
Allowed (ie_id known left after) n = IsNext known left after n
Allowed pad n = n ≡ 0
Allowed opening n = (1 ≤ n) × (n ≤ 16383)
Allowed closing n = n ≤ 1
Allowed end n = n ≡ 0

-- ---- what was read is allowed
part_is : (before previous : ℕ) (outside : Option Size) (n : ℕ) → PartLength before previous outside n → IsPart previous n
part_is before previous outside n (last short past) = few short
part_is before previous outside n (more count size some most full_before) = full count size some most full_before

closing_read : (c : Cursor) (n : ℕ) → read closing c ≡ Ok n → n ≤ 1
closing_read c n e =
    let a : Answered closing c n = answer_read closing c n e in
    subst (λ (m : ℕ). m ≤ 1) a.same
    (by_cases (c.place == start_of c.opens) (λ b. cond b 1 0 ≤ 1) (λ h. omega arith) (λ h. omega arith))

pub allowed : (question : Ask) (c : Cursor) (n : ℕ) → read question c ≡ Ok n → Allowed question n
allowed flag c n e = flag_read c n e
allowed (constrained role width most) c n e = constrained_read role width most c n e
allowed (digits count most) c n e = digits_read count most c n e
allowed (signed count low high) c n e =
    let o : IsOutside count low high n = signed_read count low high c n e in record { least = o.least; fits = o.fits }
allowed (small role) c n e = small_read role c n e
allowed (extent (whole least most outside)) c n e =
    let l : IsLength least most outside n = whole_read least most outside c n e in (l.low, l.high)
allowed (extent (part before previous outside)) c n e = part_is before previous outside n (part_read before previous outside c n e)
allowed (addition_bits count) c n e = bits_read count c n e
allowed character c n e = character_read c n e
allowed (ie_count least) c n e = count_read least c n e
allowed (ie_id known left after) c n e = id_read known left after c n e
allowed pad c n e = pad_read c n e
allowed opening c n e = opening_read c n e
allowed closing c n e = closing_read c n e
allowed end c n e = (end_read c n e).0
