-- A bit writer's steps.
use Rattle.std.proofs.Common.{◌≡◌, ℕ, ◌+◌, ◌-◌, ◌*◌, ◌/◌, ◌%◌, ◌^◌, ◌<◌, ◌≤◌, Bool, false, Result, List, [], ◌∷◌, ◌++◌, length, refl, sym, ap, ◌∙◌, subst, arith, append_assoc, append-nil, add-zero}
use Rattle.std.proofs.lemmas.List.{length-append}
use Rattle.std.proofs.lemmas.Grind.{flat_map-append}
use Rattle.std.proofs.lemmas.Nat.{pow-add, pow_pos, mul-add-lt, shl_whole, mod_below}
use Rattle.bits_core.specs.declared.writer.BitWriter.TheInside.{Inside}
use Rattle.bits_core.specs.Bits.{bits_of, octet_bits, zeros, pad_of}
use Rattle.bits_core.specs.Writing.{Written, written_of, Puts}
use Rattle.gnb_types.specs.declared.items.Memory.{Memory}
use Rattle.bits_core.proofs.BitLemmas.{bits_of-add, bits_of-join, bits_of-mod, bits_of-zero, length-bits_of, length-octet_bits, octet_bits-push}

pub no_bits : (n : ℕ) → bits_of 0 n ≡ []
unfolding bits_of
no_bits n = refl

-- bits put after those of a begun octet fit it
pub part_below : (last used count part : ℕ) → last < 2 ^ used → part < 2 ^ count → last * 2 ^ count + part < 2 ^ (used + count)
part_below last used count part h k = omega (arith, mul-add-lt last (2 ^ count) part (2 ^ used) h k, pow-add 2 used count, swap (2 ^ count) (2 ^ used))
  where
    swap : (x y : ℕ) → x * y ≡ y * x
    swap x y = omega arith

-- the shift loses nothing
pub shifted : (last used count : ℕ) → last < 2 ^ used → used + count ≤ 8 → last * 2 ^ count % 2 ^ 32 ≡ last * 2 ^ count
shifted last used count h fits = shl_whole last used count 32 h (omega arith)

-- a part of a value after the bits of a begun octet, and what is left of the value
pub parts_put : (octets : List ℕ) (last used count rest left value part : ℕ) → part ≡ value / 2 ^ rest % 2 ^ count → count + rest ≡ left
    → (octet_bits octets ++ bits_of (used + count) (last * 2 ^ count + part)) ++ bits_of rest value ≡ (octet_bits octets ++ bits_of used last) ++ bits_of left value
parts_put octets last used count rest left value part e size =
    let small : part < 2 ^ count = omega (arith, e, mod_below (value / 2 ^ rest) (2 ^ count) (pow_pos count)) in
    let low : bits_of count part ≡ bits_of count (value / 2 ^ rest) = ap (bits_of count) e ∙ bits_of-mod count (value / 2 ^ rest) in
    ap (λ (bits : List Bool). (octet_bits octets ++ bits) ++ bits_of rest value) (bits_of-join used count last part small)
    ∙ ap (λ (bits : List Bool). (octet_bits octets ++ (bits_of used last ++ bits)) ++ bits_of rest value) low
    ∙ regroup (octet_bits octets) (bits_of used last) (bits_of count (value / 2 ^ rest)) (bits_of rest value)
    ∙ ap (λ (bits : List Bool). (octet_bits octets ++ bits_of used last) ++ bits) (sym (bits_of-add count rest value) ∙ ap (λ (w : ℕ). bits_of w value) size)
  where
    regroup : (a b c d : List Bool) → (a ++ (b ++ c)) ++ d ≡ (a ++ b) ++ (c ++ d)
    regroup a b c d = simp append_assoc

-- the begun octet with a part of a value, as the code computes it
pub begun_is : (last used count part rest value : ℕ) → last < 2 ^ used → used + count ≤ 8
    → last * 2 ^ count % 2 ^ 32 + part ≡ last * 2 ^ count + part
begun_is last used count part rest value h fits = ap (λ (m : ℕ). m + part) (shifted last used count h fits)

pub begun_below : (last used count part rest value : ℕ) → last < 2 ^ used → used + count ≤ 8 → part ≡ value / 2 ^ rest % 2 ^ count
    → last * 2 ^ count % 2 ^ 32 + part < 2 ^ (used + count)
begun_below last used count part rest value h fits e =
    let small : part < 2 ^ count = omega (arith, e, mod_below (value / 2 ^ rest) (2 ^ count) (pow_pos count)) in
    omega (arith, begun_is last used count part rest value h fits, part_below last used count part h small)

-- what was written, where the octet isn't full, and where it is
pub put_after : (w : Inside) (old : Written) (octets : List ℕ) (count rest left value part : ℕ) → written_of w ≡ old
    → octets ≡ w.octets.items
    → w.last < 2 ^ w.used → w.used + count ≤ 8 → part ≡ value / 2 ^ rest % 2 ^ count → count + rest ≡ left
    → (octet_bits octets ++ bits_of (w.used + count) (w.last * 2 ^ count % 2 ^ 32 + part)) ++ bits_of rest value ≡ old.bits ++ bits_of left value
put_after w old octets count rest left value part is same h fits e size =
    ap (λ (os : List ℕ). (octet_bits os ++ bits_of (w.used + count) (w.last * 2 ^ count % 2 ^ 32 + part)) ++ bits_of rest value) same
    ∙ ap (λ (n : ℕ). (octet_bits w.octets.items ++ bits_of (w.used + count) n) ++ bits_of rest value) (begun_is w.last w.used count part rest value h fits)
    ∙ parts_put w.octets.items w.last w.used count rest left value part e size
    ∙ ap (λ (o : Written). o.bits ++ bits_of left value) is

pub full_octet : (octets new : List ℕ) (o used : ℕ) → new ≡ octets ++ o ∷ [] → used ≡ 8
    → octet_bits new ++ bits_of 0 0 ≡ octet_bits octets ++ bits_of used o
full_octet octets new o used e full =
    ap (λ (bits : List Bool). octet_bits new ++ bits) (no_bits 0) ∙ append-nil (octet_bits new)
    ∙ ap octet_bits e ∙ octet_bits-push octets o ∙ ap (λ (w : ℕ). octet_bits octets ++ bits_of w o) (sym full)

-- nothing is left to put
pub all_put : (old new : Written) (width left value : ℕ) → new.failed ≡ false → left ≡ 0
    → new.bits ++ bits_of left value ≡ old.bits ++ bits_of width value
    → new ≡ record { bits = old.bits ++ bits_of width value; failed = false }
all_put old new width left value going none puts =
    let bits : new.bits ≡ old.bits ++ bits_of width value =
    sym (ap (λ (w : ℕ). new.bits ++ bits_of w value) none ∙ ap (λ (xs : List Bool). new.bits ++ xs) (no_bits value) ∙ append-nil new.bits) ∙ puts in
    ap (λ (b : Bool). record { bits = new.bits; failed = b }) going ∙ ap (λ (xs : List Bool). record { bits = xs; failed = false }) bits

-- how many bits a writer's octet has begun
pub used_bits : (w : Inside) (old : Written) → written_of w ≡ old → w.used < 8 → length old.bits % 8 ≡ w.used
used_bits w old is h =
    omega (arith, ap (λ (o : Written). length o.bits) is, length-append (octet_bits w.octets.items) (bits_of w.used w.last), length-octet_bits w.octets.items, length-bits_of w.used w.last, h)

pub pad_is : (w : Inside) (old : Written) → written_of w ≡ old → w.used < 8 → pad_of (length old.bits) ≡ (8 - w.used) % 8
pad_is w old is h = ap (λ (n : ℕ). (8 - n) % 8) (used_bits w old is h)

-- the last octet, filled up
pub filled_fits : (last used : ℕ) → last < 2 ^ used → 0 < used → used < 8 → last * 2 ^ (8 - used) % 2 ^ 32 < 2 ^ 8
filled_fits last used h some fits =
    let below : last * 2 ^ (8 - used) + 0 < 2 ^ (used + (8 - used)) = part_below last used (8 - used) 0 h (pow_pos (8 - used)) in
    let size : used + (8 - used) ≡ 8 = omega arith in
    omega (arith, shifted last used (8 - used) h (omega arith), ap (λ (n : ℕ). 2 ^ n) size)

pub finished : (w : Inside) (old : Written) (octets : List ℕ) → written_of w ≡ old → w.last < 2 ^ w.used → w.used < 8 → 0 < w.used
    → octets ≡ w.octets.items ++ (w.last * 2 ^ (8 - w.used) % 2 ^ 32) ∷ [] → octet_bits octets ≡ old.bits ++ zeros (pad_of (length old.bits))
finished w old octets is h fits some e =
    let rest = 8 - w.used in
    let size : w.used + rest ≡ 8 = omega arith in
    let pad : pad_of (length old.bits) ≡ rest = pad_is w old is fits ∙ omega arith in
    let octet : bits_of 8 (w.last * 2 ^ rest % 2 ^ 32) ≡ bits_of w.used w.last ++ zeros rest =
    ap (bits_of 8) (shifted w.last w.used rest h (omega arith) ∙ sym (add-zero (w.last * 2 ^ rest))) ∙ ap (λ (n : ℕ). bits_of n (w.last * 2 ^ rest + 0)) (sym size)
    ∙ bits_of-join w.used rest w.last 0 (pow_pos rest) ∙ ap (λ (xs : List Bool). bits_of w.used w.last ++ xs) (bits_of-zero rest) in
    ap octet_bits e ∙ octet_bits-push w.octets.items (w.last * 2 ^ rest % 2 ^ 32)
    ∙ ap (λ (xs : List Bool). octet_bits w.octets.items ++ xs) octet ∙ sym (append_assoc (octet_bits w.octets.items) (bits_of w.used w.last) (zeros rest))
    ∙ ap (λ (o : Written). o.bits ++ zeros rest) is ∙ ap (λ (n : ℕ). old.bits ++ zeros n) (sym pad)

pub finished_whole : (w : Inside) (old : Written) (octets : List ℕ) → written_of w ≡ old → w.used ≡ 0 → octets ≡ w.octets.items
    → octet_bits octets ≡ old.bits ++ zeros (pad_of (length old.bits))
finished_whole w old octets is none e =
    let pad : pad_of (length old.bits) ≡ 0 = pad_is w old is (omega arith) ∙ omega (arith, none) in
    let bits : old.bits ≡ octet_bits w.octets.items =
    sym (ap (λ (o : Written). o.bits) is) ∙ ap (λ (n : ℕ). octet_bits w.octets.items ++ bits_of n w.last) none
    ∙ ap (λ (xs : List Bool). octet_bits w.octets.items ++ xs) (no_bits w.last) ∙ append-nil (octet_bits w.octets.items) in
    ap octet_bits e ∙ sym bits ∙ sym (append-nil old.bits) ∙ ap (λ (n : ℕ). old.bits ++ zeros n) (sym pad)

-- zero bits up to the next octet
pub aligned : (w : Inside) (old new : Written) (result : Result (Unit {0}) Memory) → written_of w ≡ old → w.used < 8
    → Puts old new (bits_of ((8 - w.used) % 8) 0) result → Puts old new (zeros (pad_of (length old.bits))) result
aligned w old new result is h puts =
    subst (λ (bits : List Bool). Puts old new bits result) (bits_of-zero ((8 - w.used) % 8) ∙ ap zeros (sym (pad_is w old is h))) puts

-- whole octets after whole ones
pub none_begun : (w : Inside) (old : Written) → written_of w ≡ old → w.used < 8 → length old.bits % 8 ≡ 0 → w.used ≡ 0
none_begun w old is h whole = omega (arith, used_bits w old is h)

pub octets_put : (w : Inside) (old : Written) (octets new : List ℕ) → written_of w ≡ old → w.used ≡ 0 → new ≡ w.octets.items ++ octets
    → octet_bits new ++ bits_of w.used w.last ≡ old.bits ++ octet_bits octets
octets_put w old octets new is none e =
    let last : bits_of w.used w.last ≡ [] = ap (λ (n : ℕ). bits_of n w.last) none ∙ no_bits w.last in
    let so_far : octet_bits w.octets.items ≡ old.bits =
    sym (append-nil (octet_bits w.octets.items)) ∙ ap (λ (xs : List Bool). octet_bits w.octets.items ++ xs) (sym last) ∙ ap (λ (o : Written). o.bits) is in
    ap (λ (xs : List Bool). octet_bits new ++ xs) last ∙ append-nil (octet_bits new)
    ∙ ap octet_bits e ∙ flat_map-append (bits_of 8) w.octets.items octets ∙ ap (λ (xs : List Bool). xs ++ octet_bits octets) so_far
