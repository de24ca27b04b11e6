-- Octets, as code has them, are octets.
use Rattle.std.proofs.Common.{◌≡◌, ℕ, zero, suc, ◌<◌, ◌≤◌, ◌==◌, ◌&&◌, true, false, List, [], ◌∷◌, length, get_or, Option, Some, None, refl, sym, ap, subst, ◌∙◌, arith}
use Rattle.asn1_syntax.specs.declared.types.definition.Size.{Size}
use Rattle.aper_defs.specs.Trees.{octet_string}
use Rattle.aper_defs.specs.Values.{Value, octets, raw}
use Rattle.aper_defs.specs.Fields.{Path, Field, asked, pad, extent, whole, run, octet}
use Rattle.aper_defs.specs.Parts.{string_fields, of_octets}
use Rattle.aper_defs.specs.Layouts.{layout}
use Rattle.aper_defs.specs.Membership.{Has, are_octets, is_count_of}
use Rattle.proof_aper.proofs.answers.NumberFacts.{is_below}
use Rattle.aper_fields.specs.widths.Ends.{end_of, Ends}
use Rattle.aper.specs.measuring.Measured.{ValueMeasured, RawMeasured}

pub all_octets : (os : List ℕ) → ((k : ℕ) → get_or os k 0 < 256) → are_octets os ≡ true
all_octets [] h = refl
all_octets (o ∷ os) h =
    ap (λ b. b && are_octets os) (is_below o 256 (h zero)) ∙ all_octets os (λ k. h (suc k))

pub octets_measured : (size : Option Size) (os : List ℕ) (v : Value) (old new : ℕ) → v ≡ octets os → is_count_of None size (length os) ≡ true
    → ((k : ℕ) → get_or os k 0 < 256) → Ends old new (λ p. string_fields p of_octets size os)
    → ValueMeasured (octet_string size) v old (Some new)
unfolding Has layout
octets_measured size os v old new seen counted small ends =
    subst (λ w. ValueMeasured (octet_string size) w old (Some new)) (sym seen) (λ p. (counted, all_octets os small), ends)

pub raw_measured : (os : List ℕ) (old new : ℕ) → (length os == 0) ≡ false → length os ≤ 16383 → ((k : ℕ) → get_or os k 0 < 256)
    → ((p inside : Path) (rest : List Field) → end_of old (asked p pad 0 ∷ asked p (extent (whole 1 16383 None)) (length os)
    ∷ run inside octet os ∷ rest) ≡ end_of new rest)
    → RawMeasured (raw os) old (Some new)
raw_measured os old new some few small ends = ((any os some, few, all_octets os small), ends)
  where
    any : (xs : List ℕ) → (length xs == 0) ≡ false → 1 ≤ length xs
    any [] e = let both : ⊥ = cc in absurd both
    any (x ∷ xs) e = omega arith
