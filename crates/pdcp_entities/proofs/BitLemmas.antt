-- The bits of a bitmap by their index.
use Rattle.std.proofs.Common.{◌≡◌, ℕ, ◌+◌, ◌-◌, ◌*◌, ◌/◌, ◌%◌, ◌^◌, ◌==◌, ◌<◌, Bool, true, false, List, [], ◌∷◌, ◌++◌, Option, Some, None, refl, sym, ap, ◌∙◌, zero, suc, arith}
use Rattle.std.specs.Prelude.{slice_get, unwrap_or}
use Rattle.pdcp_defs.specs.Senders.{is_set}
use Rattle.pdcp_entities.specs.Bits.{octet_bits, bits_of}

-- a bit of an octet, if there is one
abbrev pub bit_in : Option ℕ → ℕ → Bool
bit_in None r = false
bit_in (Some o) r = o / 2 ^ (7 - r) % 2 == 1

here : (o : ℕ) (os : List Bool) (r : ℕ) → r < 8 → is_set (octet_bits o ++ os) r ≡ bit_in (Some o) r
here o os zero h = refl
here o os (suc zero) h = refl
here o os (suc (suc zero)) h = refl
here o os (suc (suc (suc zero))) h = refl
here o os (suc (suc (suc (suc zero)))) h = refl
here o os (suc (suc (suc (suc (suc zero))))) h = refl
here o os (suc (suc (suc (suc (suc (suc zero)))))) h = refl
here o os (suc (suc (suc (suc (suc (suc (suc zero))))))) h = let e : o / 1 ≡ o = omega arith in sym (ap (λ n. n % 2 == 1) e)
here o os (suc (suc (suc (suc (suc (suc (suc (suc r)))))))) h = absurd (omega arith)

later : (o : ℕ) (os : List Bool) (n : ℕ) → is_set (octet_bits o ++ os) (n + 8) ≡ is_set os n
later o os n = let e : n + 8 ≡ suc (suc (suc (suc (suc (suc (suc (suc n))))))) = omega arith in ap (is_set (octet_bits o ++ os)) e

bits_at : (octets : List ℕ) (q r : ℕ) → r < 8 → is_set (bits_of octets) (8 * q + r) ≡ bit_in (slice_get octets q) r
unfolding bits_of
bits_at [] q r h = refl
bits_at (o ∷ octets) zero r h = let e : 8 * zero + r ≡ r = omega arith in ap (is_set (octet_bits o ++ bits_of octets)) e ∙ here o (bits_of octets) r h
bits_at (o ∷ octets) (suc q) r h =
    let e : 8 * suc q + r ≡ 8 * q + r + 8 = omega arith in
    ap (is_set (octet_bits o ++ bits_of octets)) e ∙ (later o (bits_of octets) (8 * q + r) ∙ bits_at octets q r h)

pub bit_at : (octets : List ℕ) (i : ℕ) → is_set (bits_of octets) i ≡ bit_in (slice_get octets (i / 8)) (i % 8)
bit_at octets i =
    let e : i ≡ 8 * (i / 8) + i % 8 = omega arith in
    ap (is_set (bits_of octets)) e ∙ bits_at octets (i / 8) (i % 8) (omega arith)
