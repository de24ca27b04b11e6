-- Numbers in plain decimal.
use Rattle.std.proofs.Common.{MatchResult, Bor, ◌≡◌, ℕ, ◌<◌, ◌^◌, ◌&&◌, Bool, true, false, cond, List, Some, None, Result, Ok, Err, length, refl, arith, nat_le, rules, get_or}
use Rattle.std.specs.Char.{is_ascii_digit}
use Rattle.std.specs.List.{list_all}
use Rattle.std.specs.Result.{result_ok}
use Rattle.std.specs.Str.{IsUtf8}
use Rattle.std.specs.Str.Parse.{digits_value, ParsesUnsigned}
use Rattle.std.proofs.lemmas.Bool.{lt-leb}
use Rattle.std.proofs.lemmas.Str.{IsUtf8-from_ascii}
use Rattle.std.proofs.lemmas.Str.Parse.{IsNumeralModel, numerals_by_value, parse_digits}
use Rattle.std.proofs.lemmas.Fmt.{IsAscii-from_digits}
use Rattle.std.proofs.lemmas.Bool.Decides.{nat_tests}
use Rattle.scenario_text.specs.script_words.Forms.{is_plain, number_of}

pub own : IsNumeralModel (λ ds. list_all is_ascii_digit ds ≡ true) (digits_value 10)
own = numerals_by_value _ (search rules)

-- what a plain word has
pub record Plain (word : List ℕ) : Type 0 where
  pub some : 0 < length word
  pub digits : list_all is_ascii_digit word ≡ true
  pub lead : get_or word 0 0 ≡ 48 → length word ≡ 1

pub Plain-from : (word : List ℕ) → is_plain word ≡ true → Plain word
Plain-from word h = record { some = grind (arith, nat_tests); digits = grind (arith, nat_tests); lead = grind (arith, nat_tests) }

pub IsUtf8-plain : (word : List ℕ) → is_plain word ≡ true → IsUtf8 word
IsUtf8-plain word h = IsUtf8-from_ascii word (IsAscii-from_digits word (own.to word (Plain-from word h).digits))

-- digits are text
pub plain_has_text : {X E : Type 0} (word : List ℕ) (r : Result X E) (P : X → Type 0) (Q : E → Type 0)
    → is_plain word ≡ true → None ≡ result_ok r → MatchResult r P (λ e. (¬ IsUtf8 word) × Q e) → ⊥
plain_has_text word (Ok x) P Q h none cases = cc
plain_has_text word (Err e) P Q h none cases = cases.0 (IsUtf8-plain word h)

-- what is made of a text is made of these bytes
pub same_text : {E : Type 0} (word : List ℕ) (text : Bor (List ℕ)) (r : Result (Bor (List ℕ)) E) (P : Type 0) (Q : E → Type 0)
    → Some text ≡ result_ok r → MatchResult r (λ s. (s.now ≡ word) × P) Q → text.now ≡ word
same_text word text (Ok s) P Q is cases = let same : text ≡ s = cc in rw same cases.0
same_text word text (Err e) P Q is cases = absurd (cc)

-- a plain number that passes its bound
pub number_of-above : (low high : ℕ) (word : List ℕ) → high < digits_value 10 word → number_of low high word ≡ None
number_of-above low high word above = rw (lt-leb (digits_value 10 word) high above) (by_rest (is_plain word && nat_le low (digits_value 10 word)))
  where
    by_rest : (b : Bool) → cond (b && false) (Some (digits_value 10 word)) None ≡ None
    by_rest true = refl
    by_rest false = refl

-- what isn't parsed passes each bound of 32 bits
pub number_of-unparsed : {E : Type 0} (low high : ℕ) (word text : List ℕ) (r : Result ℕ E)
    → is_plain word ≡ true → text ≡ word → None ≡ result_ok r → ParsesUnsigned 32 10 text r → high < 2 ^ 32 → number_of low high word ≡ None
number_of-unparsed low high word text (Ok n) h same none parses fits = absurd (cc)
number_of-unparsed low high word text (Err e) h same none parses fits =
    let plain = Plain-from word h in
    let refused : ((0 < length word) × (digits_value 10 word < 2 ^ 32)) → ⊥ = parse_digits own 32 word (Err e) (rw same at parses) plain.digits in
    number_of-above low high word (not_below _ (λ below. refused (plain.some, below)))
  where
    not_below : (v : ℕ) → (v < 2 ^ 32 → ⊥) → high < v
    not_below v large = omega (arith, large)
