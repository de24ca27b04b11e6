-- Open types that were put.
use Rattle.std.proofs.Common.{◌≡◌, ℕ, ◌+◌, ◌*◌, ◌%◌, ◌/◌, cond, nat_lt, Bool, List, [], ◌∷◌, ◌++◌, length, refl, sym, ap, ◌∙◌, arith, append_assoc, append-nil}
use Rattle.std.proofs.lemmas.List.{length-append}
use Rattle.std.proofs.lemmas.Grind.{fold-append}
use Rattle.bits_core.specs.Bits.{bits_of, octet_bits}
use Rattle.bits_core.specs.Writing.{Written}
use Rattle.bits_core.proofs.BitLemmas.{length-octet_bits}
use Rattle.aper_defs.specs.Fields.{Path, Field, asked, pad, opening, closing, end, octet}
use Rattle.aper_defs.specs.Fields as fields
use Rattle.aper_defs.specs.Bits.{put, put_all, closed, octet_count, open_fields, extent_width}
use Rattle.proof_aper.proofs.answers.NumberFacts.{by_cases}
use Rattle.proof_aper.proofs.places.Bits.{all_bits, put_all-is, put_all-nil, all_bits-same}
use Rattle.aper_fields.specs.Following.{Follows}
use Rattle.aper_fields.proofs.Followed.{put_first}

pub put_both : (bits : List Bool) (a b : List Field) → put_all bits (a ++ b) ≡ put_all (put_all bits a) b
unfolding put_all
put_both bits a b = fold-append put bits a b

-- fields at an octet's beginning have the bits that they have at first
pub put_aligned : (bits : List Bool) (fs : List Field) → length bits % 8 ≡ 0 → put_all bits fs ≡ bits ++ put_all [] fs
put_aligned bits fs h =
    let place : length bits ≡ 8 * (length bits / 8) + 0 = omega arith in
    put_all-is bits fs
    ∙ ap (λ (n : ℕ). bits ++ all_bits n fs) place
    ∙ ap (λ (xs : List Bool). bits ++ xs) (all_bits-same (length bits / 8) 0 fs ∙ sym (put_all-nil fs))

-- the end of an open type has no bits
end_put : (bits : List Bool) (inside : Path) (rest : List Field) → put_all bits (asked inside end 0 ∷ rest) ≡ put_all bits rest
unfolding put_all bits_of
end_put bits inside rest = put_first bits (asked inside end 0) rest ∙ ap (λ (xs : List Bool). put_all xs rest) (append-nil bits)

octets_told : (octets : List ℕ) (inside : Path) (fs : List Field) → octet_bits octets ≡ put_all [] (closed inside fs)
    → length octets ≡ octet_count (closed inside fs)
octets_told octets inside fs e =
    let n : 8 * length octets ≡ length (put_all [] (closed inside fs)) = sym (length-octet_bits octets) ∙ ap length e in omega (arith, n)

-- an open type whose contents' octets were put after its length
pub opened_put : (old padded told new : Written) (p inside : Path) (octets : List ℕ) (fs rest : List Field)
    → octet_bits octets ≡ put_all [] (closed inside fs)
    → Follows old padded (λ q. asked q pad 0 ∷ [])
    → (count : ℕ) → count ≡ length octets → Follows padded told (λ q. asked q opening count ∷ [])
    → length told.bits % 8 ≡ 0
    → Follows told new (λ q. fields.run q octet octets ∷ [])
    → put_all old.bits (open_fields p inside fs ++ rest) ≡ put_all new.bits rest
unfolding put_all
opened_put old padded told new p inside octets fs rest e first count counted second whole third =
    let is : new.bits ≡ told.bits ++ octet_bits octets = sym (third p []) in
    let tail : List Field = (closed inside fs ++ asked inside end 0 ∷ []) ++ rest in
    let regrouped : tail ≡ closed inside fs ++ (asked inside end 0 ∷ rest) = append_assoc (closed inside fs) (asked inside end 0 ∷ []) rest in
    let contents : put_all told.bits (closed inside fs) ≡ new.bits =
    put_aligned told.bits (closed inside fs) whole ∙ ap (λ (xs : List Bool). told.bits ++ xs) (sym e) ∙ sym is in
    first p (asked p opening (octet_count (closed inside fs)) ∷ tail)
    ∙ ap (λ (n : ℕ). put_all padded.bits (asked p opening n ∷ tail)) (sym (octets_told octets inside fs e))
    ∙ ap (λ (n : ℕ). put_all padded.bits (asked p opening n ∷ tail)) (sym counted)
    ∙ second p tail
    ∙ ap (put_all told.bits) regrouped
    ∙ put_both told.bits (closed inside fs) (asked inside end 0 ∷ rest)
    ∙ ap (λ (xs : List Bool). put_all xs (asked inside end 0 ∷ rest)) contents
    ∙ end_put new.bits inside rest

pub told_whole : (start n size : ℕ) → start % 8 ≡ 0 → size ≡ start + extent_width n → size % 8 ≡ 0
told_whole start n size h e =
    let width : extent_width n % 8 ≡ 0 = by_cases (nat_lt n 128) (λ b. cond b 8 (cond (nat_lt n 16384) 16 8) % 8 ≡ 0) (λ x. refl)
    (λ x. by_cases (nat_lt n 16384) (λ b. cond b 16 8 % 8 ≡ 0) (λ y. refl) (λ y. refl)) in
    omega (arith, width, e)
