-- A bit reader's steps.
use Rattle.std.proofs.Common.{◌≡◌, ℕ, ◌+◌, ◌-◌, ◌*◌, ◌/◌, ◌%◌, ◌^◌, ◌<◌, ◌≤◌, Bool, List, length, get_or, take, drop, sym, ap, ◌∙◌, arith}
use Rattle.std.proofs.lemmas.List.{length-take, length-drop, drop-drop}
use Rattle.std.proofs.Math.Seq.{take-add}
use Rattle.std.proofs.Math.Nat.{pow-le-pow_right, div-one}
use Rattle.std.proofs.lemmas.Nat.{shl_whole}
use Rattle.bits_core.specs.Bits.{bits_of, number_of, octet_bits, pad_of}
use Rattle.bits_core.specs.Reading.{Reading, bits_left, moved, pad_number}
use Rattle.bits_core.proofs.BitLemmas.{number_of-bits_of, number_of-append, number_small, length-octet_bits, within_octet, part_of_octet}

pub left_length : (r : Reading) → length (bits_left r) ≡ 8 * length r.octets - r.place
left_length r = omega (arith, length-drop r.place (octet_bits r.octets), length-octet_bits r.octets)

-- the bits at a place that lie in one octet
pub bits_here : (octets : List ℕ) (place count : ℕ) → place / 8 < length octets → place % 8 + count ≤ 8
    → take count (drop place (octet_bits octets)) ≡ bits_of count (get_or octets (place / 8) 0 / 2 ^ (8 - place % 8 - count))
bits_here octets place count h fits =
    let whole : place ≡ 8 * (place / 8) + place % 8 = omega arith in
    let size : place % 8 + (count + (8 - place % 8 - count)) ≡ 8 = omega arith in
    ap (λ (p : ℕ). take count (drop p (octet_bits octets))) whole
    ∙ within_octet octets (place / 8) (place % 8) count h fits
    ∙ part_of_octet (get_or octets (place / 8) 0) (place % 8) count (8 - place % 8 - count) size

pub number_here : (octets : List ℕ) (place count : ℕ) → place / 8 < length octets → place % 8 + count ≤ 8
    → number_of (take count (drop place (octet_bits octets))) ≡ get_or octets (place / 8) 0 / 2 ^ (8 - place % 8 - count) % 2 ^ count
number_here octets place count h fits =
    ap number_of (bits_here octets place count h fits) ∙ number_of-bits_of count (get_or octets (place / 8) 0 / 2 ^ (8 - place % 8 - count))

-- what is left after some bits
pub left_after : (r : Reading) (count : ℕ) → bits_left (moved r count) ≡ drop count (bits_left r)
left_after r count = sym (drop-drop count r.place (octet_bits r.octets))

-- a further part after the bits taken so far
pub part_taken : (r : Reading) (done count number part : ℕ) → done + count ≤ length (bits_left r)
    → number ≡ number_of (take done (bits_left r))
    → part ≡ number_of (take count (bits_left (moved r done))) → number * 2 ^ count + part ≡ number_of (take (done + count) (bits_left r))
part_taken r done count number part enough so_far e =
    let bits = bits_left r in
    let more : part ≡ number_of (take count (drop done bits)) = e ∙ ap (λ (xs : List Bool). number_of (take count xs)) (left_after r done) in
    let size : length (take count (drop done bits)) ≡ count = omega (arith, length-take count (drop done bits), length-drop done bits, enough) in
    ap (λ (n : ℕ). n * 2 ^ count + part) so_far
    ∙ ap (λ (n : ℕ). number_of (take done bits) * 2 ^ count + n) more
    ∙ ap (λ (n : ℕ). number_of (take done bits) * 2 ^ n + number_of (take count (drop done bits))) (sym size)
    ∙ sym (number_of-append (take done bits) (take count (drop done bits)))
    ∙ ap number_of (sym (take-add done count bits))

-- how far the bits reach from a place
pub ahead : (octets : List ℕ) (place most : ℕ) (r : Reading) → record { octets = octets; place = place } ≡ r → most ≤ length (bits_left r)
    → most ≤ 8 * length octets - place
ahead octets place most r is enough =
    omega (arith, left_length (record { octets = octets; place = place }), ap (λ (s : Reading). length (bits_left s)) is, enough)

pub part_is : (octets : List ℕ) (place count rest part : ℕ) (r : Reading) → record { octets = octets; place = place } ≡ r
    → place / 8 < length octets
    → place % 8 + count ≤ 8 → rest ≡ 8 - place % 8 - count → part ≡ get_or octets (place / 8) 0 / 2 ^ rest % 2 ^ count
    → part ≡ number_of (take count (bits_left r))
part_is octets place count rest part r is h fits shift e =
    e ∙ ap (λ (n : ℕ). get_or octets (place / 8) 0 / 2 ^ n % 2 ^ count) shift ∙ sym (number_here octets place count h fits)
    ∙ ap (λ (s : Reading). number_of (take count (bits_left s))) is

pub bits_left_of : (octets : List ℕ) (place : ℕ) (r : Reading) → record { octets = octets; place = place } ≡ r
    → length (bits_left r) ≡ 8 * length octets - place
bits_left_of octets place r is =
    sym (ap (λ (s : Reading). length (bits_left s)) is) ∙ left_length (record { octets = octets; place = place })

pub moved_none : (r : Reading) (n : ℕ) → n ≡ 0 → r ≡ moved r n
moved_none r n none = let same : r.place ≡ r.place + n = omega (arith, none) in ap (λ (p : ℕ). record { octets = r.octets; place = p }) same

pub moved_more : (old mid new : Reading) (done count total : ℕ) → mid ≡ moved old done → new ≡ moved mid count → total ≡ done + count
    → new ≡ moved old total
moved_more old mid new done count total first second sum =
    let there : old.place + done + count ≡ old.place + total = omega (arith, sum) in
    second ∙ ap (λ (r : Reading). moved r count) first ∙ ap (λ (p : ℕ). record { octets = old.octets; place = p }) there

pub none_taken : (bits : List Bool) (n : ℕ) → n ≡ 0 → 0 ≡ number_of (take n bits)
none_taken bits n none = sym (ap (λ (k : ℕ). number_of (take k bits)) none)

-- so many bits are a number of that many bits
pub taken_small : (bits : List Bool) (n : ℕ) → number_of (take n bits) < 2 ^ n
taken_small bits n =
    let short : length (take n bits) ≤ n = omega (arith, length-take n bits) in
    omega (arith, number_small (take n bits), pow-le-pow_right {n = 2} (omega arith) short)

-- the number so far with a further part, as the code computes it
pub number_more : (r mid : Reading) (done count total number part : ℕ) → mid ≡ moved r done → done + count ≤ length (bits_left r)
    → done + count ≤ 64
    → number ≡ number_of (take done (bits_left r)) → part ≡ number_of (take count (bits_left mid)) → total ≡ done + count
    → number * 2 ^ count % 2 ^ 64 + part ≡ number_of (take total (bits_left r))
number_more r mid done count total number part there enough fits so_far e sum =
    let small : number < 2 ^ done = omega (arith, so_far, taken_small (bits_left r) done) in
    ap (λ (n : ℕ). n + part) (shl_whole number done count 64 small fits)
    ∙ part_taken r done count number part enough so_far (e ∙ ap (λ (s : Reading). number_of (take count (bits_left s))) there)
    ∙ ap (λ (n : ℕ). number_of (take n (bits_left r))) (sym sum)

pub number_fits : (bits : List Bool) (total number : ℕ) → number ≡ number_of (take total bits) → total ≤ 64 → number < 2 ^ 64
number_fits bits total number e fits = omega (arith, e, taken_small bits total, pow-le-pow_right {n = 2} (omega arith) fits)

-- ---- pads
pub pad_number_is : (octets : List ℕ) (place pad : ℕ) (r : Reading) → record { octets = octets; place = place } ≡ r
    → place / 8 < length octets → place % 8 + pad ≡ 8
    → pad ≡ pad_of place → pad_number r ≡ get_or octets (place / 8) 0 % 2 ^ pad
pad_number_is octets place pad r is h size e =
    let none : 8 - place % 8 - pad ≡ 0 = omega (arith, size) in
    sym (ap pad_number is) ∙ ap (λ (n : ℕ). number_of (take n (drop place (octet_bits octets)))) (sym e)
    ∙ number_here octets place pad h (omega (arith, size))
    ∙ ap (λ (n : ℕ). get_or octets (place / 8) 0 / 2 ^ n % 2 ^ pad) none
    ∙ ap (λ (n : ℕ). n % 2 ^ pad) (div-one (get_or octets (place / 8) 0))

-- no pad is left where the place is a multiple of 8
pub no_pad : (octets : List ℕ) (place : ℕ) (r : Reading) → record { octets = octets; place = place } ≡ r → place % 8 ≡ 0 → pad_number r ≡ 0
no_pad octets place r is whole =
    let none : pad_of place ≡ 0 = omega (arith, whole) in
    sym (ap pad_number is) ∙ ap (λ (n : ℕ). number_of (take n (drop place (octet_bits octets)))) none

pub moved_pad : (octets : List ℕ) (place pad : ℕ) (r : Reading) → record { octets = octets; place = place } ≡ r → pad ≡ pad_of place
    → (let next : Reading = record { octets = octets; place = place + pad } in next) ≡ moved r (pad_of r.place)
moved_pad octets place pad r is e =
    ap (λ (n : ℕ). record { octets = octets; place = place + n }) e ∙ ap (λ (s : Reading). moved s (pad_of s.place)) is
