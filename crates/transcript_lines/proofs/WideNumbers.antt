-- Numbers of 64 bits in plain decimal.
use Rattle.std.proofs.Common.{◌≡◌, ℕ, ◌<◌, ◌^◌, true, List, None, Result, Ok, Err, length, arith}
use Rattle.std.specs.Result.{result_ok}
use Rattle.std.specs.Str.Parse.{digits_value, ParsesUnsigned}
use Rattle.std.proofs.lemmas.Str.Parse.{parse_digits}
use Rattle.scenario_text.specs.script_words.Forms.{is_plain, number_of}
use Rattle.scenario_text.proofs.script_words.NumberLemmas.{own, Plain-from, number_of-above}

-- what isn't parsed passes each bound of 64 bits
pub number_of-unparsed : {E : Type 0} (low high : ℕ) (word text : List ℕ) (r : Result ℕ E)
    → is_plain word ≡ true → text ≡ word → None ≡ result_ok r → ParsesUnsigned 64 10 text r → high < 2 ^ 64 → number_of low high word ≡ None
number_of-unparsed low high word text (Ok n) h same none parses fits = absurd (cc)
number_of-unparsed low high word text (Err e) h same none parses fits =
    let plain = Plain-from word h in
    let refused : ((0 < length word) × (digits_value 10 word < 2 ^ 64)) → ⊥ = parse_digits own 64 word (Err e) (rw same at parses) plain.digits in
    number_of-above low high word (not_below _ (λ below. refused (plain.some, below)))
  where
    not_below : (v : ℕ) → (v < 2 ^ 64 → ⊥) → high < v
    not_below v large = omega (arith, large)
