-- Bits as octets.
use Rattle.std.proofs.Common.{◌≡◌, ℕ, zero, suc, ◌*◌, ◌^◌, ◌<◌, Bool, List, [], ◌∷◌, ◌++◌, length, take, drop, refl, sym, ap, subst, ◌∙◌, arith}
use Rattle.std.specs.Prelude.{All}
use Rattle.std.proofs.lemmas.List.{length-take, length-drop, take-append-drop}
use Rattle.std.proofs.lemmas.List.Elements.{All-cons, All-nil}
use Rattle.bits_core.specs.Bits.{bits_of, number_of, octet_bits}
use Rattle.bits_core.proofs.BitLemmas.{bits_of-number_of, number_small}
use Rattle.aper_defs.specs.octet_defs.Octets.{octets_of}

pub octets_of_bits : (count : ℕ) (bits : List Bool) → length bits ≡ 8 * count → octet_bits (octets_of count bits) ≡ bits
octets_of_bits zero [] h = refl
octets_of_bits zero (b ∷ bits) h = absurd (omega (arith, h))
octets_of_bits (suc count) bits h =
    let front : length (take 8 bits) ≡ 8 = omega (arith, length-take 8 bits, h) in
    let first : bits_of 8 (number_of (take 8 bits)) ≡ take 8 bits =
    ap (λ (n : ℕ). bits_of n (number_of (take 8 bits))) (sym front) ∙ bits_of-number_of (take 8 bits) in
    ap (λ (xs : List Bool). xs ++ octet_bits (octets_of count (drop 8 bits))) first
    ∙ ap (λ (xs : List Bool). take 8 bits ++ xs) (octets_of_bits count (drop 8 bits) (omega (arith, length-drop 8 bits, h)))
    ∙ take-append-drop 8 bits

pub octets_of_count : (count : ℕ) (bits : List Bool) → length (octets_of count bits) ≡ count
octets_of_count zero bits = refl
octets_of_count (suc count) bits = ap suc (octets_of_count count (drop 8 bits))

pub octets_of_below : (count : ℕ) (bits : List Bool) → length bits ≡ 8 * count → All (λ o. o < 256) (octets_of count bits)
octets_of_below zero bits h = All-nil (λ o. o < 256)
octets_of_below (suc count) bits h =
    let front : length (take 8 bits) ≡ 8 = omega (arith, length-take 8 bits, h) in
    All-cons (λ o. o < 256) (number_of (take 8 bits)) (octets_of count (drop 8 bits))
    (subst (λ (n : ℕ). number_of (take 8 bits) < 2 ^ n) front (number_small (take 8 bits)))
    (octets_of_below count (drop 8 bits) (omega (arith, length-drop 8 bits, h)))
