-- A bitmap begins with the octet of its first eight bits.
use Rattle.std.proofs.Common.{◌≡◌, ◌<◌, ◌++◌, ◌∷◌, [], List, Bool, length, min, ℕ, refl, arith, append_assoc, append-nil}
use Rattle.pdcp.specs.Pdus.{bitmap, octet_of}

-- the front is the first eight bits, or all where there are fewer
pub bitmap-append : (front rest : List Bool) → length front ≡ min 8 (length (front ++ rest)) → 0 < length (front ++ rest)
    → bitmap (front ++ rest) ≡ octet_of front ∷ bitmap rest
unfolding bitmap
bitmap-append [] rest all some = absurd (omega arith)
bitmap-append (a ∷ []) [] all some = refl
bitmap-append (a ∷ []) (x ∷ rest) all some = absurd (omega arith)
bitmap-append (a ∷ b ∷ []) [] all some = refl
bitmap-append (a ∷ b ∷ []) (x ∷ rest) all some = absurd (omega arith)
bitmap-append (a ∷ b ∷ c ∷ []) [] all some = refl
bitmap-append (a ∷ b ∷ c ∷ []) (x ∷ rest) all some = absurd (omega arith)
bitmap-append (a ∷ b ∷ c ∷ d ∷ []) [] all some = refl
bitmap-append (a ∷ b ∷ c ∷ d ∷ []) (x ∷ rest) all some = absurd (omega arith)
bitmap-append (a ∷ b ∷ c ∷ d ∷ e ∷ []) [] all some = refl
bitmap-append (a ∷ b ∷ c ∷ d ∷ e ∷ []) (x ∷ rest) all some = absurd (omega arith)
bitmap-append (a ∷ b ∷ c ∷ d ∷ e ∷ f ∷ []) [] all some = refl
bitmap-append (a ∷ b ∷ c ∷ d ∷ e ∷ f ∷ []) (x ∷ rest) all some = absurd (omega arith)
bitmap-append (a ∷ b ∷ c ∷ d ∷ e ∷ f ∷ g ∷ []) [] all some = refl
bitmap-append (a ∷ b ∷ c ∷ d ∷ e ∷ f ∷ g ∷ []) (x ∷ rest) all some = absurd (omega arith)
bitmap-append (a ∷ b ∷ c ∷ d ∷ e ∷ f ∷ g ∷ h ∷ []) rest all some = refl
bitmap-append (a ∷ b ∷ c ∷ d ∷ e ∷ f ∷ g ∷ h ∷ i ∷ front) rest all some = absurd (omega arith)

-- one octet more, and what is left makes the same whole
pub bitmap_more : (octets new whole : List ℕ) (all front rest : List Bool) (size octet : ℕ) → octets ++ bitmap all ≡ whole
    → all ≡ front ++ rest → length front ≡ min size (length all) → 0 < length all → size ≡ 8
    → octet ≡ octet_of front → new ≡ octets ++ octet ∷ [] → new ++ bitmap rest ≡ whole
bitmap_more octets new whole all front rest size octet report split enough some eight is pushed =
    let enough' : length front ≡ min 8 (length (front ++ rest)) = rw (← split, ← eight) enough in
    let some' : 0 < length (front ++ rest) = rw (← split) some in
    let whole_is : octets ++ (octet_of front ∷ bitmap rest) ≡ whole = rw (← bitmap-append front rest enough' some', ← split) report in
    rw (pushed, is, append_assoc) whole_is

-- nothing is left
pub bitmap_done : (octets whole : List ℕ) (rest : List Bool) → octets ++ bitmap rest ≡ whole → length rest ≡ 0 → octets ≡ whole
unfolding bitmap
bitmap_done octets whole [] report none = rw (← append-nil octets) report
bitmap_done octets whole (bit ∷ rest) report none = absurd (omega arith)
