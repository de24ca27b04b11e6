-- Complete encodings that were put.
use Rattle.std.proofs.Common.{◌≡◌, ℕ, ◌+◌, ◌*◌, ◌%◌, ◌==◌, cond, Bool, true, false, List, [], ◌∷◌, ◌++◌, length, refl, sym, ap, ◌∙◌, arith, append-nil}
use Rattle.std.proofs.lemmas.List.{length-append, length-replicate}
use Rattle.bits_core.specs.Bits.{bits_of, octet_bits, zeros, pad_of}
use Rattle.bits_core.proofs.BitLemmas.{length-octet_bits, length-bits_of, bits_of-zero}
use Rattle.aper_defs.specs.Fields.{Path, Field, asked, closing}
use Rattle.aper_defs.specs.Bits.{width_at, put_all, closed}
use Rattle.proof_aper.proofs.answers.NumberFacts.{same, by_cases}
use Rattle.aper_fields.proofs.Followed.{put_first}
use Rattle.aper_fields.proofs.Opened.{put_both}

-- what a closing puts after so many bits
closing_width : ℕ → ℕ → ℕ
closing_width size place = cond (cond (size == 0) 1 0 == 0) (pad_of place) 8

closed_bits : (p : Path) (fs : List Field)
    → put_all [] (closed p fs) ≡ put_all [] fs ++ zeros (closing_width (length (put_all [] fs)) (length (put_all [] fs)))
unfolding put_all closing_width
closed_bits p fs =
    let bits = put_all [] fs in
    let mark : ℕ = cond (length bits == 0) 1 0 in
    put_both [] fs (asked p closing mark ∷ [])
    ∙ ap (λ (xs : List Bool). bits ++ xs) (bits_of-zero (width_at (length bits) closing mark))

filled : (p : Path) (fs : List Field) (octets : List ℕ)
    → octet_bits octets ≡ put_all [] fs ++ zeros (pad_of (length (put_all [] fs))) → (length octets == 0) ≡ false
    → octet_bits octets ≡ put_all [] (closed p fs)
unfolding closing_width
filled p fs octets e some =
    let bits = put_all [] fs in
    let size : 8 * length octets ≡ length bits + length (zeros (pad_of (length bits))) =
    sym (length-octet_bits octets) ∙ ap length e ∙ length-append bits (zeros (pad_of (length bits))) in
    let pad : length (zeros (pad_of (length bits))) ≡ pad_of (length bits) = length-replicate (pad_of (length bits)) false in
    let width : closing_width (length bits) (length bits) ≡ pad_of (length bits) =
    by_cases (length bits == 0) (λ b. cond (cond b 1 0 == 0) (pad_of (length bits)) 8 ≡ pad_of (length bits))
    (λ h. absurd (none (length octets) some (omega (arith, size, pad, same (length bits) 0 h)))) (λ h. refl) in
    e ∙ ap (λ (n : ℕ). bits ++ zeros n) (sym width) ∙ sym (closed_bits p fs)
  where
    none : (n : ℕ) → (n == 0) ≡ false → n ≡ 0 → ⊥
    none n h z = let k : (n == 0) ≡ true = ap (λ (m : ℕ). m == 0) z in cc

zero_filled : (p : Path) (fs : List Field) (octets : List ℕ)
    → octet_bits octets ≡ put_all [] fs ++ zeros (pad_of (length (put_all [] fs))) → (length octets == 0) ≡ true
    → octet_bits (octets ++ 0 ∷ []) ≡ put_all [] (closed p fs)
unfolding closing_width bits_of put_all
zero_filled p fs octets e none =
    let bits = put_all [] fs in
    let size : 8 * length octets ≡ length bits + length (zeros (pad_of (length bits))) =
    sym (length-octet_bits octets) ∙ ap length e ∙ length-append bits (zeros (pad_of (length bits))) in
    let empty : length bits ≡ 0 = omega (arith, size, same (length octets) 0 none) in
    let width : closing_width (length bits) (length bits) ≡ 8 = ap (λ (n : ℕ). closing_width n n) empty in
    let nothing : bits ≡ [] = is_empty bits empty in
    let no_octets : octets ≡ [] = is_empty octets (same (length octets) 0 none) in
    ap (λ (os : List ℕ). octet_bits (os ++ 0 ∷ [])) no_octets ∙ bits_of-zero 8
    ∙ ap (λ (xs : List Bool). xs ++ zeros 8) (sym nothing)
    ∙ ap (λ (n : ℕ). bits ++ zeros n) (sym width) ∙ sym (closed_bits p fs)
  where
    is_empty : {A : Type 0} (xs : List A) → length xs ≡ 0 → xs ≡ []
    is_empty [] h = refl
    is_empty (x ∷ xs) h = absurd (omega (arith, h))

-- the same of bits that are those of the fields
pub filled_up : (p : Path) (fs : List Field) (bits : List Bool) (octets : List ℕ) → put_all [] fs ≡ bits
    → octet_bits octets ≡ bits ++ zeros (pad_of (length bits)) → (length octets == 0) ≡ false
    → octet_bits octets ≡ put_all [] (closed p fs)
filled_up p fs bits octets is e some =
    filled p fs octets (e ∙ ap (λ (xs : List Bool). xs ++ zeros (pad_of (length xs))) (sym is)) some

pub filled_with_zeros : (p : Path) (fs : List Field) (bits : List Bool) (octets : List ℕ) → put_all [] fs ≡ bits
    → octet_bits octets ≡ bits ++ zeros (pad_of (length bits)) → (length octets == 0) ≡ true
    → octet_bits (octets ++ 0 ∷ []) ≡ put_all [] (closed p fs)
filled_with_zeros p fs bits octets is e none =
    zero_filled p fs octets (e ∙ ap (λ (xs : List Bool). xs ++ zeros (pad_of (length xs))) (sym is)) none
