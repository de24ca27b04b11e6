-- Open types stand where their bits are: their contents end where their length says.
use Rattle.std.proofs.Common.{◌≡◌, ℕ, ◌+◌, ◌*◌, ◌%◌, ◌≤◌, ◌==◌, nat_lt, cond, ◌&&◌, Bool, true, false, List, [], ◌∷◌, ◌++◌, length, Ok, refl, sym, ap, subst, ◌∙◌, arith, append_assoc}
use Rattle.std.proofs.lemmas.Bool.Decides.{nat_tests}
use Rattle.std.proofs.lemmas.Nat.{pow_pos}
use Rattle.bits_core.specs.Bits.{bits_of, pad_of}
use Rattle.bits_core.proofs.BitLemmas.{length-bits_of}
use Rattle.aper_defs.specs.declared.reason.Reason.TheVariants as reasons
use Rattle.aper_defs.specs.Fields.{Path, Field, pad, opening, closing, end, asked}
use Rattle.aper_defs.specs.Bits.{width_at, spelled, put_all, extent_width, closed, octet_count, open_fields}
use Rattle.aper_defs.specs.Reading.{Cursor, unless, bits_at, is_within, ends_at, start_of, read, answered_at, moved_by}
use Rattle.proof_aper.proofs.answers.Standing.{StandAll, after_all, after_all-append}
use Rattle.proof_aper.proofs.answers.NumberFacts.{by_cases, same, is_same, is_at_most}
use Rattle.proof_aper.proofs.places.Bits.{all_bits, total, length-all_bits, total-append, all_bits-append, put_all-nil, total-aligned}
use Rattle.proof_aper.proofs.places.Extents.{allowed_opening}
use Rattle.proof_aper.proofs.places.Placed.{Room, room_less, room_after, within_less, bits_after, reads, Allowed, reads_allowed, Placed, stand_both}

pub allowed_pad : Allowed pad 0
allowed_pad = record {
  wide = λ c rest e. refl;
  small = λ place. pow_pos (pad_of place);
  right = λ c. refl;
  same = λ c. refl;
}

-- whether nothing was put, as a closing answers it
abbrev pub empty_mark : List Field → ℕ
empty_mark fs = cond (length (put_all [] fs) == 0) 1 0

pub size_is : (fs : List Field) → length (put_all [] fs) ≡ total 0 fs
size_is fs = ap length (put_all-nil fs) ∙ length-all_bits 0 fs

-- how many bits a closing has after so many
abbrev pub closing_width : ℕ → ℕ
closing_width size = cond (size == 0) 8 (pad_of size)

pub whole_octets : (size : ℕ) → ((size + closing_width size) % 8 ≡ 0) × (8 ≤ size + closing_width size)
whole_octets size = by_cases (size == 0) (λ b. ((size + cond b 8 (pad_of size)) % 8 ≡ 0) × (8 ≤ size + cond b 8 (pad_of size)))
    (λ e. let none : size ≡ 0 = same size 0 e in (omega (arith, none), omega arith))
    (λ e. let some : 1 ≤ size = grind (arith, nat_tests) in (omega arith, omega arith))

-- the width of the closing's answer, at an aligned start
pub closing_is : (fs : List Field) (start : ℕ) → start % 8 ≡ 0
    → width_at (start + total start fs) closing (empty_mark fs) ≡ closing_width (total 0 fs)
closing_is fs start h =
    let size : total start fs ≡ total 0 fs = total-aligned start fs h in
    let pads : pad_of (start + total start fs) ≡ pad_of (total 0 fs) = omega (arith, size) in
    ap (λ (n : ℕ). cond (cond (n == 0) 1 0 == 0) (pad_of (start + total start fs)) 8) (size_is fs)
    ∙ ap (λ (w : ℕ). cond (cond (total 0 fs == 0) 1 0 == 0) w 8) pads
    ∙ swapped (total 0 fs == 0) (pad_of (total 0 fs))
  where
    swapped : (b : Bool) (w : ℕ) → cond (cond b 1 0 == 0) w 8 ≡ cond b 8 w
    swapped true w = refl
    swapped false w = refl

-- the octets of a complete encoding
pub octets_are : (inside : Path) (fs : List Field) → 8 * octet_count (closed inside fs) ≡ total 0 fs + closing_width (total 0 fs)
octets_are inside fs =
    let mark : Field = asked inside closing (empty_mark fs) in
    let all : length (put_all [] (closed inside fs)) ≡ total 0 fs + (width_at (0 + total 0 fs) closing (empty_mark fs) + 0) =
    size_is (closed inside fs) ∙ total-append 0 fs (mark ∷ []) in
    let width : width_at (0 + total 0 fs) closing (empty_mark fs) ≡ closing_width (total 0 fs) = closing_is fs 0 refl in
    omega (arith, all, width, (whole_octets (total 0 fs)).0)

pub octets_some : (inside : Path) (fs : List Field) → 1 ≤ octet_count (closed inside fs)
octets_some inside fs = omega (arith, octets_are inside fs, (whole_octets (total 0 fs)).1)

-- a closing is read after the contents, where these began at the start of the innermost encoding
pub reads_closing : (fs : List Field) (c : Cursor) (rest : List Bool) → start_of c.opens % 8 ≡ 0
    → c.place ≡ start_of c.opens + total (start_of c.opens) fs
    → bits_at c ≡ bits_of (width_at c.place closing (empty_mark fs)) 0 ++ rest → Room c (width_at c.place closing (empty_mark fs))
    → read closing c ≡ Ok (empty_mark fs)
reads_closing fs c rest aligned at there room =
    let start = start_of c.opens in
    let size : total start fs ≡ total 0 fs = total-aligned start fs aligned in
    let first : (c.place == start) ≡ (total 0 fs == 0) = grind (arith, nat_tests) in
    let here : (total 0 fs == 0) ≡ (length (put_all [] fs) == 0) = ap (λ (n : ℕ). n == 0) (sym (size_is fs)) in
    reads closing (empty_mark fs) c rest
    (ap (λ b. cond b 8 (pad_of c.place)) (first ∙ here) ∙ swapped (length (put_all [] fs) == 0) (pad_of c.place))
    (pow_pos (width_at c.place closing (empty_mark fs))) refl
    (ap (λ b. cond b 1 0) (first ∙ here)) there room
  where
    swapped : (b : Bool) (w : ℕ) → cond b 8 w ≡ cond (cond b 1 0 == 0) w 8
    swapped true w = refl
    swapped false w = refl

-- ---- the whole of an open type
end_fields : Path → List Field → List Field
end_fields inside fs = asked inside closing (empty_mark fs) ∷ asked inside end 0 ∷ []

regrouped : (inside : Path) (fs : List Field) → closed inside fs ++ asked inside end 0 ∷ [] ≡ fs ++ end_fields inside fs
unfolding end_fields
regrouped inside fs = append_assoc fs (asked inside closing (empty_mark fs) ∷ []) (asked inside end 0 ∷ [])

-- the place where the contents begin, and how many bits they have with their closing
end_total : (inside : Path) (fs : List Field) (start : ℕ) → start % 8 ≡ 0
    → total start (closed inside fs ++ asked inside end 0 ∷ []) ≡ 8 * octet_count (closed inside fs)
unfolding end_fields
end_total inside fs start h =
    ap (total start) (regrouped inside fs) ∙ total-append start fs (end_fields inside fs)
    ∙ omega (arith, closing_is fs start h, octets_are inside fs, total-aligned start fs h)

width_whole : (n : ℕ) → extent_width n % 8 ≡ 0
width_whole n = by_cases (nat_lt n 128) (λ b. cond b 8 (cond (nat_lt n 16384) 16 8) % 8 ≡ 0) (λ e. refl)
    (λ e. by_cases (nat_lt n 16384) (λ b. cond b 16 8 % 8 ≡ 0) (λ f. refl) (λ f. refl))

-- the end of the innermost open type
reads_end : (c : Cursor) (rest : List Bool) → ends_at c.place c.opens ≡ true → bits_at c ≡ rest → Room c 0 → read end c ≡ Ok 0
unfolding bits_of
reads_end c rest here there room = reads end 0 c rest refl (pow_pos 0) (ap (λ b. unless b reasons.Tail) here) refl there room

module _ (p inside : Path) (fs : List Field) (fits : octet_count (closed inside fs) ≤ 16383) (placed : Placed fs) where
  -- the place after the length
  abbrev begun : Cursor → Cursor
  begun c = answered_at opening (octet_count (closed inside fs)) (answered_at pad 0 c)

  start_whole : (c : Cursor) → (begun c).place % 8 ≡ 0
  start_whole c =
      let a : (c.place + pad_of c.place) % 8 ≡ 0 = omega arith in omega (arith, width_whole (octet_count (closed inside fs)))

  open_total : (c : Cursor) → total c.place (open_fields p inside fs) ≡ pad_of c.place +
      (extent_width (octet_count (closed inside fs)) + 8 * octet_count (closed inside fs))
  open_total c = let e = end_total inside fs (begun c).place (start_whole c) in omega (arith, e)

  open_moves : (c : Cursor) → after_all (open_fields p inside fs) c ≡ moved_by (total c.place (open_fields p inside fs)) c
  unfolding end_fields
  open_moves c =
      let d = begun c in
      let s = d.place in
      let size = total s fs in
      let width = width_at (s + size) closing (empty_mark fs) in
      let sum : s + size + width + 0 ≡ c.place + total c.place (open_fields p inside fs) =
      omega (arith, open_total c, closing_is fs s (start_whole c), octets_are inside fs, total-aligned s fs (start_whole c)) in
      ap (λ gs. after_all gs d) (regrouped inside fs)
      ∙ after_all-append fs (end_fields inside fs) d
      ∙ ap (after_all (end_fields inside fs)) (placed.moves d)
      ∙ ap (λ (n : ℕ). record { octets = c.octets; place = n; opens = c.opens }) sum

  -- the bits after the length: the contents, and what closes them
  after_length : (c : Cursor) (rest : List Bool) → bits_at c ≡ all_bits c.place (open_fields p inside fs) ++ rest
      → bits_at (begun c) ≡ all_bits (begun c).place (fs ++ end_fields inside fs) ++ rest
  after_length c rest e =
      let w1 = pad_of c.place in
      let w2 = extent_width (octet_count (closed inside fs)) in
      let x = spelled opening (octet_count (closed inside fs)) in
      let tail = all_bits (c.place + w1 + w2) (closed inside fs ++ asked inside end 0 ∷ []) in
      let split : bits_at c ≡ bits_of w1 0 ++ ((bits_of w2 x ++ tail) ++ rest) = e
      ∙ append_assoc (bits_of w1 0) (bits_of w2 x ++ tail) rest in
      let at_length : bits_at (answered_at pad 0 c) ≡ (bits_of w2 x ++ tail) ++ rest = bits_after c w1 (bits_of w1 0)
      ((bits_of w2 x ++ tail) ++ rest) split (length-bits_of w1 0) in
      bits_after (answered_at pad 0 c) w2 (bits_of w2 x) (tail ++ rest) (at_length ∙ append_assoc (bits_of w2 x) tail rest)
      (length-bits_of w2 x)
      ∙ ap (λ gs. all_bits (c.place + w1 + w2) gs ++ rest) (regrouped inside fs)

  length_read : (c : Cursor) (rest : List Bool) → bits_at c ≡ all_bits c.place (open_fields p inside fs) ++ rest
      → Room c (total c.place (open_fields p inside fs))
      → (read pad c ≡ Ok 0) × (read opening (answered_at pad 0 c) ≡ Ok (octet_count (closed inside fs)))
  length_read c rest e r =
      let n = octet_count (closed inside fs) in
      let w1 = pad_of c.place in
      let w2 = extent_width n in
      let x = spelled opening n in
      let tail = all_bits (c.place + w1 + w2) (closed inside fs ++ asked inside end 0 ∷ []) in
      let split : bits_at c ≡ bits_of w1 0 ++ ((bits_of w2 x ++ tail) ++ rest) = e
      ∙ append_assoc (bits_of w1 0) (bits_of w2 x ++ tail) rest in
      let at_length : bits_at (answered_at pad 0 c) ≡ (bits_of w2 x ++ tail) ++ rest = bits_after c w1 (bits_of w1 0)
      ((bits_of w2 x ++ tail) ++ rest) split (length-bits_of w1 0) in
      let room : Room c (w1 + (w2 + 8 * n)) = subst (Room c) (open_total c) r in (
        reads_allowed pad 0 c ((bits_of w2 x ++ tail) ++ rest) allowed_pad split (room_less c w1 (w1 + (w2 + 8 * n)) (omega arith) room),
        reads_allowed opening n (answered_at pad 0 c) (tail ++ rest) (allowed_opening n (octets_some inside fs) fits) (at_length
            ∙ append_assoc (bits_of w2 x) tail rest)
            (room_less (answered_at pad 0 c) w2 (w2 + 8 * n) (omega arith) (room_after c w1 (w2 + 8 * n) room)),
      )

  -- there is room for the contents up to the end that is told
  contents_room : (c : Cursor) (width : ℕ) → Room c (total c.place (open_fields p inside fs)) → width ≤ 8 * octet_count (closed inside fs)
      → Room (begun c) width
  contents_room c width r h =
      let n = octet_count (closed inside fs) in
      let w1 = pad_of c.place in
      let w2 = extent_width n in
      let room : Room c (w1 + (w2 + 8 * n)) = subst (Room c) (open_total c) r in
      let s = c.place + w1 + w2 in
      record {
        within = ap (λ b. b && is_within (s + width) c.opens) (is_at_most (s + width) (s + 8 * n) (omega arith))
            ∙ within_less c.opens (s + width) (c.place + (w1 + (w2 + 8 * n))) (omega arith) room.within;
        limit = omega (arith, room.limit);
        there = omega (arith, room.there);
      }

  contents_stand : (c : Cursor) (rest : List Bool) → bits_at c ≡ all_bits c.place (open_fields p inside fs) ++ rest
      → Room c (total c.place (open_fields p inside fs))
      → StandAll (fs ++ end_fields inside fs) (begun c)
  unfolding end_fields
  contents_stand c rest e r =
      let d = begun c in
      let s = d.place in
      let size = total s fs in
      let mark = empty_mark fs in
      let width = width_at (s + size) closing mark in
      let n = octet_count (closed inside fs) in
      let whole = start_whole c in
      let sum : size + width ≡ 8 * n = omega (arith, closing_is fs s whole, octets_are inside fs, total-aligned s fs whole) in
      let after = all_bits (s + size) (end_fields inside fs) in
      let all : bits_at d ≡ all_bits s fs ++ (after ++ rest) =
      after_length c rest e ∙ ap (λ (xs : List Bool). xs ++ rest) (all_bits-append s fs (end_fields inside fs))
      ∙ append_assoc (all_bits s fs) after rest in
      let d2 = moved_by size d in
      let at_closing : bits_at d2 ≡ after ++ rest = bits_after d size (all_bits s fs) (after ++ rest) all (length-all_bits s fs) in
      let more = all_bits (s + size + width) (asked inside end 0 ∷ []) in
      let at_closing' : bits_at d2 ≡ bits_of width 0 ++ (more ++ rest) = at_closing ∙ append_assoc (bits_of width 0) more rest in
      let room : Room d (size + width) = contents_room c (size + width) r (omega (arith, sum)) in
      let room2 : Room d2 width = room_after d size width room in
      let d3 = moved_by width d2 in
      let at_end : bits_at d3 ≡ more ++ rest = bits_after d2 width (bits_of width 0) (more ++ rest) at_closing' (length-bits_of width 0) in
      let room3 : Room d3 0 = room_after d2 width 0 (subst (Room d2) (omega arith) room2) in
      let closes : read closing d2 ≡ Ok mark = reads_closing fs d2 (more ++ rest) whole refl at_closing' room2 in
      let here : (d3.place == s + 8 * n) ≡ true = is_same (s + size + width) (s + 8 * n) (omega (arith, sum)) in
      let ends : read end d3 ≡ Ok 0 = reads_end d3 (more ++ rest) here at_end room3 in
      stand_both fs (end_fields inside fs) d
      (placed.stand d (after ++ rest) all (room_less d size (size + width) (omega arith) room))
      (subst (StandAll (end_fields inside fs)) (sym (placed.moves d)) (closes, (ends, tt)))

-- an open type whose contents stand wherever their bits are
pub placed_open : (p inside : Path) (fs : List Field) → octet_count (closed inside fs) ≤ 16383 → Placed fs
    → Placed (open_fields p inside fs)
placed_open p inside fs fits placed = record {
  stand = λ c rest e r.
      let reading = length_read p inside fs fits placed c rest e r in (
        reading.0,
        (
          reading.1,
          subst (λ gs. StandAll gs (answered_at opening (octet_count (closed inside fs)) (answered_at pad 0 c)))
              (sym (regrouped inside fs)) (contents_stand p inside fs fits placed c rest e r),
        ),
      );
  moves = open_moves p inside fs fits placed;
}
