-- Fields that were put.
use Rattle.std.proofs.Common.{◌≡◌, ℕ, ◌+◌, ◌*◌, Bool, true, false, List, [], ◌∷◌, ◌++◌, zero, suc, ◌<◌, ◌≤◌, length, take, get_or, map, Result, Ok, Err, OnOk, refl, sym, ap, ◌∙◌, arith, append_assoc, append-nil}
use Rattle.std.proofs.lemmas.List.{take_more, length-append}
use Rattle.std.specs.List.{flat_map}
use Rattle.bits_core.specs.Bits.{bits_of, bit_value, octet_bits}
use Rattle.std.specs.Int.{from_bool}
use Rattle.gnb_types.specs.declared.items.Memory.{Memory}
use Rattle.bits_core.specs.Writing.{Written, Puts}
use Rattle.bits_core.proofs.BitLemmas.{length-bits_of, octet_bits-push}
use Rattle.aper_defs.specs.Fields.{Ask, RunUnit, Field, Path, asked, character, octet, bit}
use Rattle.aper_defs.specs.Fields as fields
use Rattle.aper_defs.specs.Bits.{width_at, spelled, unit_width, field_bits, put, put_all}
use Rattle.aper_fields.specs.Following.{Follows}

pub put_first : (bits : List Bool) (f : Field) (fs : List Field) → put_all bits (f ∷ fs) ≡ put_all (put bits f) fs
unfolding put_all
put_first bits f fs = refl

-- an answer of this width
pub answer_put : (old new : Written) (width number : ℕ) (question : Ask) (n : ℕ)
    → new ≡ record { bits = old.bits ++ bits_of width number; failed = false }
    → width_at (length old.bits) question n ≡ width → spelled question n ≡ number
    → Follows old new (λ p. asked p question n ∷ [])
answer_put old new width number question n is wide told p rest =
    put_first old.bits (asked p question n) rest
    ∙ ap (λ (w : ℕ). put_all (old.bits ++ bits_of w (spelled question n)) rest) wide
    ∙ ap (λ (m : ℕ). put_all (old.bits ++ bits_of width m) rest) told
    ∙ ap (λ (w : Written). put_all w.bits rest) (sym is)

pub run_put : (old new : Written) (unit : RunUnit) (units : List ℕ)
    → new.bits ≡ old.bits ++ flat_map (bits_of (unit_width unit)) units
    → Follows old new (λ p. fields.run p unit units ∷ [])
run_put old new unit units is p rest =
    put_first old.bits (fields.run p unit units) rest ∙ ap (λ (bits : List Bool). put_all bits rest) (sym is)

characters_bits : (bits : List Bool) (p : Path) (cs : List ℕ) (rest : List Field)
    → put_all bits (map (λ c. asked p character c) cs ++ rest) ≡ put_all (bits ++ octet_bits cs) rest
characters_bits bits p [] rest = ap (λ (xs : List Bool). put_all xs rest) (sym (append-nil bits))
characters_bits bits p (c ∷ cs) rest =
    put_first bits (asked p character c) (map (λ d. asked p character d) cs ++ rest)
    ∙ characters_bits (bits ++ bits_of 8 c) p cs rest
    ∙ ap (λ (xs : List Bool). put_all xs rest) (append_assoc bits (bits_of 8 c) (octet_bits cs))

pub characters_put : (old new : Written) (cs : List ℕ) → new.bits ≡ old.bits ++ octet_bits cs
    → Follows old new (λ p. map (λ c. asked p character c) cs)
characters_put old new cs is p rest = characters_bits old.bits p cs rest ∙ ap (λ (bits : List Bool). put_all bits rest) (sym is)

pub bits_run : (bs : List Bool) → flat_map (bits_of 1) (map bit_value bs) ≡ bs
unfolding bits_of
bits_run [] = refl
bits_run (true ∷ bs) = ap (λ (xs : List Bool). true ∷ xs) (bits_run bs)
bits_run (false ∷ bs) = ap (λ (xs : List Bool). false ∷ xs) (bits_run bs)

-- what follows from bits that were put
pub put_ok : (result : Result (Unit {0}) Memory) (old new : Written) (bits : List Bool) (Q : Type 0) → Puts old new bits result
    → (new ≡ record { bits = old.bits ++ bits; failed = false } → Q) → OnOk result Q
put_ok (Ok done) old new bits Q puts f = f puts.1
put_ok (Err e) old new bits Q puts f = tt

pub grown : (old new : Written) (width number : ℕ) → new ≡ record { bits = old.bits ++ bits_of width number; failed = false }
    → length new.bits ≡ length old.bits + width
grown old new width number is =
    omega (arith, ap (λ (w : Written). length w.bits) is, length-append old.bits (bits_of width number), length-bits_of width number)

pub bit_is : (b : Bool) → from_bool b ≡ bit_value b
bit_is true = refl
bit_is false = refl

pub all_taken : {A : Type 0} (i : ℕ) (xs : List A) → length xs ≤ i → take i xs ≡ xs
all_taken zero [] h = refl
all_taken zero (x ∷ xs) h = absurd (omega (arith, h))
all_taken (suc i) [] h = refl
all_taken (suc i) (x ∷ xs) h = ap (λ ys. x ∷ ys) (all_taken i xs (omega arith))

-- an octet more of these, and a bit more
pub octets_more : (old : List Bool) (xs : List ℕ) (i : ℕ) → i < length xs
    → old ++ octet_bits (take (i + 1) xs) ≡ (old ++ octet_bits (take i xs)) ++ bits_of 8 (get_or xs i 0)
octets_more old xs i h =
    ap (λ ys. old ++ octet_bits ys) (take_more xs i 0 h)
    ∙ ap (λ (bs : List Bool). old ++ bs) (octet_bits-push (take i xs) (get_or xs i 0))
    ∙ sym (append_assoc old (octet_bits (take i xs)) (bits_of 8 (get_or xs i 0)))

one_bit : (b : Bool) → bits_of 1 (from_bool b) ≡ b ∷ []
unfolding bits_of
one_bit true = refl
one_bit false = refl

pub bits_more : (old : List Bool) (xs : List Bool) (i : ℕ) → i < length xs
    → old ++ take (i + 1) xs ≡ (old ++ take i xs) ++ bits_of 1 (from_bool (get_or xs i false))
bits_more old xs i h =
    ap (λ ys. old ++ ys) (take_more xs i false h)
    ∙ sym (append_assoc old (take i xs) (get_or xs i false ∷ []))
    ∙ ap (λ (bs : List Bool). (old ++ take i xs) ++ bs) (sym (one_bit (get_or xs i false)))
