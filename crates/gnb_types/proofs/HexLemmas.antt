-- Hexadecimal text: a loop's step, and how the function and the relation agree.
use Rattle.std.proofs.Common.{◌≡◌, ℕ, ◌+◌, ◌*◌, ◌/◌, ◌%◌, ◌<◌, ◌≤◌, List, [], ◌∷◌, ◌++◌, length, get_or, drop, Option, Some, None, refl, sym, ap, ◌∙◌, subst, arith, append_assoc}
use Rattle.std.proofs.lemmas.List.{drop_more, drop_all}
use Rattle.std.proofs.lemmas.Bool.Decides.{nat_tests}
use Rattle.std.proofs.lemmas.List.Elements.{All-head, All-tail}
use Rattle.std.specs.Prelude.{All, IfOk, Result, Ok, Err}
use Rattle.gnb_types.specs.declared.hex.HexError.{HexError}
use Rattle.std.specs.Option.{option_map}
use Rattle.gnb_types.specs.Hex.{hex_digit, hex_of, digit_of, byte_of, byte_before, read_hex, IsDigitOf, IsHexOf, GivesHex}

-- the bytes so far, and those of what is left
abbrev pub onto : List ℕ → Option (List ℕ) → Option (List ℕ)
onto front read = option_map (λ rest. front ++ rest) read

pub onto_nil : (read : Option (List ℕ)) → onto [] read ≡ read
onto_nil None = refl
onto_nil (Some bytes) = refl

pub onto_byte : (front : List ℕ) (byte : ℕ) (read : Option (List ℕ))
    → onto front (byte_before (Some byte) read) ≡ onto (front ++ byte ∷ []) read
onto_byte front byte None = refl
onto_byte front byte (Some bytes) = ap Some (sym (append_assoc front (byte ∷ []) bytes))

pub hex_step : (text : List ℕ) (i : ℕ) → 2 * i + 1 < length text
    → read_hex (drop (2 * i) text) ≡ byte_before (byte_of (digit_of (get_or text (2 * i) 0)) (digit_of (get_or text (2 * i + 1) 0))) (read_hex (drop (2 * (i + 1)) text))
hex_step text i h =
    let next : 2 * (i + 1) ≡ 2 * i + 1 + 1 = omega arith in
    ap read_hex (drop_more text (2 * i) 0 (omega arith) ∙ ap (λ (rest : List ℕ). get_or text (2 * i) 0 ∷ rest) (drop_more text (2 * i + 1) 0 h))
    ∙ ap (λ (n : ℕ). byte_before (byte_of (digit_of (get_or text (2 * i) 0)) (digit_of (get_or text (2 * i + 1) 0))) (read_hex (drop n text))) (sym next)

pub hex_none : (text front : List ℕ) → front ≡ [] → onto front (read_hex text) ≡ read_hex text
hex_none text front e = ap (λ (f : List ℕ). onto f (read_hex text)) e ∙ onto_nil (read_hex text)

-- a turn of the loop that read a byte, and one that didn't
pub hex_more : (text front new : List ℕ) (i byte : ℕ) → 2 * i + 1 < length text
    → Some byte ≡ byte_of (digit_of (get_or text (2 * i) 0)) (digit_of (get_or text (2 * i + 1) 0))
    → new ≡ front ++ byte ∷ []
    → onto front (read_hex (drop (2 * i) text)) ≡ read_hex text
    → onto new (read_hex (drop (2 * (i + 1)) text)) ≡ read_hex text
hex_more text front new i byte h e grown so_far =
    ap (λ (f : List ℕ). onto f (read_hex (drop (2 * (i + 1)) text))) grown
    ∙ sym (onto_byte front byte (read_hex (drop (2 * (i + 1)) text)))
    ∙ ap (λ (b : Option ℕ). onto front (byte_before b (read_hex (drop (2 * (i + 1)) text)))) e
    ∙ ap (onto front) (sym (hex_step text i h)) ∙ so_far

pub hex_stop : (text front : List ℕ) (i : ℕ) → 2 * i + 1 < length text
    → None ≡ byte_of (digit_of (get_or text (2 * i) 0)) (digit_of (get_or text (2 * i + 1) 0))
    → onto front (read_hex (drop (2 * i) text)) ≡ read_hex text
    → read_hex text ≡ None
hex_stop text front i h e so_far =
    sym so_far ∙ ap (onto front) (hex_step text i h ∙ ap (λ (b : Option ℕ). byte_before b (read_hex (drop (2 * (i + 1)) text))) (sym e))

pub hex_all : (text front : List ℕ) (i : ℕ) → length text ≤ 2 * i → onto front (read_hex (drop (2 * i) text)) ≡ read_hex text
    → read_hex text ≡ Some front
hex_all text front i h so_far =
    sym so_far ∙ ap (λ (rest : List ℕ). onto front (read_hex rest)) (drop_all (2 * i) text h) ∙ ap Some (append-nil' front)
  where
    append-nil' : (xs : List ℕ) → xs ++ [] ≡ xs
    append-nil' [] = refl
    append-nil' (x ∷ xs) = ap (λ (ys : List ℕ). x ∷ ys) (append-nil' xs)

pub hex_odd : (text : List ℕ) → length text % 2 ≡ 1 → read_hex text ≡ None
hex_odd [] h = absurd (omega arith)
hex_odd (a ∷ []) h = refl
hex_odd (a ∷ b ∷ text) h =
    let rest : length text % 2 ≡ 1 = omega (arith, h) in
    ap (byte_before (byte_of (digit_of a) (digit_of b))) (hex_odd text rest) ∙ before_none (byte_of (digit_of a) (digit_of b))
  where
    before_none : (b : Option ℕ) → byte_before b None ≡ None
    before_none None = refl
    before_none (Some byte) = refl

-- a character stands for a number as a function, and as a relation
pub digit_is : (c n : ℕ) → digit_of c ≡ Some n → IsDigitOf c n
digit_is c n e = grind (arith, nat_tests)

pub is_digit : (c n : ℕ) → IsDigitOf c n → digit_of c ≡ Some n
is_digit c n h = grind (arith, nat_tests)

-- what the parts are of a byte that was read before others
abbrev Parts : Option ℕ → Option ℕ → Option (List ℕ) → List ℕ → Type 0
Parts a b read bytes =
    (h : ℕ) × (l : ℕ) × (rest : List ℕ) × (a ≡ Some h) × (b ≡ Some l) × (read ≡ Some rest) × (bytes ≡ (16 * h + l) ∷ rest)

parts : (a b : Option ℕ) (read : Option (List ℕ)) (bytes : List ℕ) → byte_before (byte_of a b) read ≡ Some bytes → Parts a b read bytes
parts (Some h) (Some l) (Some rest) bytes e = (h, l, rest, refl, refl, refl, cc)
parts (Some h) (Some l) None bytes e = cc
parts (Some h) None read bytes e = cc
parts None b read bytes e = cc

pub read_is_hex : (text bytes : List ℕ) → read_hex text ≡ Some bytes → IsHexOf text bytes
read_is_hex [] [] e = tt
read_is_hex [] (byte ∷ bytes) e = cc
read_is_hex (a ∷ []) bytes e = cc
read_is_hex (a ∷ b ∷ text) bytes e = after a b text bytes (parts (digit_of a) (digit_of b) (read_hex text) bytes e) (read_is_hex text)
  where
    after : (a b : ℕ) (text bytes : List ℕ) → Parts (digit_of a) (digit_of b) (read_hex text) bytes
        → ((rest : List ℕ) → read_hex text ≡ Some rest → IsHexOf text rest) → IsHexOf (a ∷ b ∷ text) bytes
    after a b text bytes (h, l, rest, ea, eb, er, e) again =
        subst (λ (bs : List ℕ). IsHexOf (a ∷ b ∷ text) bs) (sym e) (h, l, digit_is a h ea, digit_is b l eb, refl, again rest er)

pub hex_is_read : (text bytes : List ℕ) → IsHexOf text bytes → read_hex text ≡ Some bytes
hex_is_read [] [] h = refl
hex_is_read [] (byte ∷ bytes) h = absurd h
hex_is_read (a ∷ []) bytes h = absurd h
hex_is_read (a ∷ b ∷ text) [] h = absurd h
hex_is_read (a ∷ b ∷ text) (byte ∷ bytes) (high, low, ha, hb, e, rest) =
    ap (λ (d : Option ℕ). byte_before (byte_of d (digit_of b)) (read_hex text)) (is_digit a high ha)
    ∙ ap (λ (d : Option ℕ). byte_before (byte_of (Some high) d) (read_hex text)) (is_digit b low hb)
    ∙ ap (λ (r : Option (List ℕ)). byte_before (Some (16 * high + low)) r) (hex_is_read text bytes rest)
    ∙ ap (λ (n : ℕ). Some (n ∷ bytes)) (sym e)

pub one_hex : (text a b : List ℕ) → IsHexOf text a → IsHexOf text b → a ≡ b
one_hex text a b p q = let e = sym (hex_is_read text a p) ∙ hex_is_read text b q in cc

digit_means : (n : ℕ) → n < 16 → IsDigitOf (hex_digit n) n
digit_means n h = grind (arith, nat_tests)

pub hex_of_is_hex : (bytes : List ℕ) → All (λ b. b < 256) bytes → IsHexOf (hex_of bytes) bytes
hex_of_is_hex [] h = tt
hex_of_is_hex (byte ∷ bytes) h =
    let small : byte < 256 = All-head (λ b. b < 256) byte bytes h in (
      byte / 16,
      byte % 16,
      digit_means (byte / 16) (omega arith),
      digit_means (byte % 16) (omega arith),
      omega arith,
      hex_of_is_hex bytes (All-tail (λ b. b < 256) byte bytes h),
    )

pub gives_found : (text : List ℕ) (r : Result (List ℕ) HexError) → GivesHex r (read_hex text) → IfOk r (IsHexOf text)
gives_found text (Ok bytes) h = read_is_hex text bytes h
gives_found text (Err e) h = tt

pub gives_only : (text : List ℕ) (r : Result (List ℕ) HexError) → GivesHex r (read_hex text) → (bytes : List ℕ) → IsHexOf text bytes
    → GivesHex r (Some bytes)
gives_only text r h bytes is = subst (GivesHex r) (hex_is_read text bytes is) h
