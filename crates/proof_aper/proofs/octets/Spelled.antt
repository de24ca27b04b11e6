-- The octets of a value are its one spelling where it has one, and none where it isn't a value of the type or is too long.
use Rattle.std.proofs.Common.{◌≡◌, ℕ, ◌*◌, ◌<◌, ◌≤◌, Bool, true, false, cond, List, [], length, Result, Ok, Err, refl, sym, ap, subst, ◌∙◌, arith}
use Rattle.std.specs.Prelude.{All}
use Rattle.bits_core.specs.Bits.{octet_bits}
use Rattle.bits_core.proofs.BitLemmas.{same_octets}
use Rattle.aper_defs.specs.Trees.{Tree}
use Rattle.aper_defs.specs.Values.{Value}
use Rattle.aper_defs.specs.Bits.{put_all, octet_count}
use Rattle.aper_defs.specs.Layouts.{layout}
use Rattle.aper_defs.specs.Membership.{Has}
use Rattle.aper_defs.specs.Bounds.{IsBounded}
use Rattle.aper_defs.specs.Spelling.{Spells, spelling_limit, whole_layout}
use Rattle.aper_defs.specs.Reading.{Fault, decoded}
use Rattle.proof_aper.proofs.places.Opened.{closing_is, octets_are}
use Rattle.proof_aper.proofs.values.FoundWhole.{decoded_spells}
use Rattle.proof_aper.proofs.spelled.Spelled.{whole_size, spelled_decoded}
use Rattle.aper_defs.specs.octet_defs.SameValues.{same_value}
use Rattle.aper_defs.specs.octet_defs.Octets.{octets_of, laid_out, is_found, spelled_as}
use Rattle.proof_aper.proofs.octets.SameValues.{value_is, value_itself}
use Rattle.proof_aper.proofs.octets.Octets.{octets_of_bits, octets_of_count, octets_of_below}

pub one_spelling : (t : Tree) (v : Value) (a b : List ℕ) → All (λ o. o < 256) a → All (λ o. o < 256) b → Spells t v a → Spells t v b → a ≡ b
one_spelling t v a b h k s r = same_octets a b h k (s.bits ∙ sym r.bits)

module _ (t : Tree) (v : Value) where
  abbrev its_bits : List Bool
  its_bits = put_all [] (whole_layout t v)

  abbrev its_count : ℕ
  its_count = octet_count (whole_layout t v)

  abbrev filled : List ℕ
  filled = laid_out t v

  whole : length its_bits ≡ 8 * its_count
  whole = let fs = layout [] t v in whole_size fs ∙ omega (arith, octets_are [] fs, closing_is fs 0 refl)

  filled_bits : octet_bits filled ≡ its_bits
  filled_bits = octets_of_bits its_count its_bits whole

  filled_count : length filled ≡ its_count
  filled_count = octets_of_count its_count its_bits

  filled_below : All (λ o. o < 256) filled
  filled_below = octets_of_below its_count its_bits whole

  -- a value whose layout isn't too long has a spelling
  pub some_spelling : Has [] t v → octet_count (whole_layout t v) ≤ spelling_limit → (octets : List ℕ) × All (λ o. o < 256) octets × Spells t v octets
  some_spelling h short = (filled, filled_below, record { has = h; bits = filled_bits; short = omega (arith, filled_count) })

  module _ (b : IsBounded t) where
    -- octets that spell it are those
    pub spelled_is : (octets : List ℕ) → All (λ o. o < 256) octets → Spells t v octets → octets ≡ spelled_as t v
    unfolding spelled_as
    spelled_is octets below s =
        let same : octets ≡ filled = same_octets octets filled below filled_below (s.bits ∙ sym filled_bits) in
        let read : decoded t filled ≡ Ok v = subst (λ (os : List ℕ). decoded t os ≡ Ok v) same (spelled_decoded t v octets b s) in
        same ∙ sym (ap (λ (r : Result Value Fault). cond (is_found v r) filled []) read ∙ ap (λ (c : Bool). cond c filled []) (value_itself v))

    nothing_is : (Spells t v filled → ⊥) → [] ≡ spelled_as t v
    unfolding spelled_as
    nothing_is never = by (decoded t filled) refl
      where
        found : (w : Value) → decoded t filled ≡ Ok w → (c : Bool) → same_value w v ≡ c → [] ≡ cond c filled []
        found w is true e = absurd (never (subst (λ (x : Value). Spells t x filled) (value_is w v e) (decoded_spells t w filled b is)))
        found w is false e = refl

        by : (r : Result Value Fault) → decoded t filled ≡ r → [] ≡ cond (is_found v r) filled []
        by (Ok w) is = found w is (same_value w v) refl
        by (Err fault) is = refl

    -- where nothing spells it, there are none: it isn't a value of the type, or its layout is too long
    pub nothing_is_unspelled : ((octets : List ℕ) → Spells t v octets → ⊥) → [] ≡ spelled_as t v
    nothing_is_unspelled never = nothing_is (never filled)

    pub nothing_is_no_value : (Has [] t v → ⊥) → [] ≡ spelled_as t v
    nothing_is_no_value never = nothing_is (λ s. never s.has)

    pub nothing_is_too_long : spelling_limit < octet_count (whole_layout t v) → [] ≡ spelled_as t v
    nothing_is_too_long long = nothing_is (λ s. omega (arith, s.short, filled_count, long))
