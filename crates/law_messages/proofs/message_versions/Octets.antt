-- The octets of whole bits are octets.
use Rattle.std.proofs.Common.{◌≡◌, ℕ, zero, suc, ◌*◌, ◌^◌, ◌<◌, Bool, true, List, length, take, drop, refl, ap, subst, ◌∙◌, arith}
use Rattle.std.specs.Prelude.{nat_lt, ◌&&◌}
use Rattle.std.specs.List.{list_all}
use Rattle.std.proofs.lemmas.List.{length-take, length-drop}
use Rattle.bits_core.specs.Bits.{number_of}
use Rattle.bits_core.proofs.BitLemmas.{number_small}
use Rattle.proof_aper.proofs.answers.NumberFacts.{is_below}
use Rattle.aper_defs.specs.octet_defs.Octets.{octets_of}

pub octets_of_octets : (count : ℕ) (bits : List Bool) → length bits ≡ 8 * count → list_all (λ o. nat_lt o 256) (octets_of count bits) ≡ true
octets_of_octets zero bits h = refl
octets_of_octets (suc count) bits h =
    let front : length (take 8 bits) ≡ 8 = omega (arith, length-take 8 bits, h) in
    let small : number_of (take 8 bits) < 256 = subst (λ (n : ℕ). number_of (take 8 bits) < 2 ^ n) front (number_small (take 8 bits)) in
    ap (λ (b : Bool). b && list_all (λ o. nat_lt o 256) (octets_of count (drop 8 bits))) (is_below (number_of (take 8 bits)) 256 small)
    ∙ octets_of_octets count (drop 8 bits) (omega (arith, length-drop 8 bits, h))
