-- The lexical item at the front of a text (X.680, 12.2 to 12.37): as long as it can be.
use Rattle.std.specs.Prelude.{ℕ, ◌==◌, ◌+◌, ◌-◌, ◌*◌, ◌^◌, List, [], ◌∷◌, length, take, drop, Bool, true, false, Option, Some, None, if◌then◌else◌, nat_eq, nat_le, ◌||◌, ◌&&◌, codes, fold, min, pos}
use Rattle.std.specs.List.{starts_with}
use Rattle.std.proofs.Common.{neg_ℤ}
use Rattle.asn1_tokens.specs.Words.{word_of, is_left_out}
use Rattle.asn1_tokens.specs.declared.token.Word.{Word}
use Rattle.asn1_tokens.specs.declared.token.Sign.TheVariants as signs
use Rattle.asn1_tokens.specs.declared.token.Token.{Token}
use Rattle.asn1_tokens.specs.declared.token.Token.TheVariants as tokens
use Rattle.asn1_tokens.specs.declared.scan.Gap.{Gap}
use Rattle.asn1_tokens.specs.declared.scan.Gap.TheVariants as gaps

abbrev pub is_upper : ℕ → Bool
is_upper c = nat_le 65 c && nat_le c 90

abbrev pub is_lower : ℕ → Bool
is_lower c = nat_le 97 c && nat_le c 122

abbrev pub is_digit : ℕ → Bool
is_digit c = nat_le 48 c && nat_le c 57

abbrev pub is_name_part : ℕ → Bool
is_name_part c = is_upper c || (is_lower c || is_digit c)

-- space, tab, carriage return and line feed
abbrev pub is_white : ℕ → Bool
is_white c = (c == 32) || ((c == 9) || ((c == 13) || (c == 10)))

abbrev pub begins : (ℕ → Bool) → List ℕ → Bool
begins p [] = false
begins p (c ∷ cs) = p c

-- two hyphens
abbrev pub is_mark : ℕ → List ℕ → Bool
is_mark c cs = (c == 45) && begins (λ d. d == 45) cs

-- what follows where the gap ends, or goes on
abbrev pub gap_rest : Option Gap → List ℕ → (Gap → List ℕ) → List ℕ
gap_rest None here on = here
gap_rest (Some next) here on = on next

-- What comes after a byte of a gap, if the gap goes on with it: white space, or a comment, from two hyphens to the
-- next two or to the line's end.
abbrev pub next_gap : Gap → ℕ → List ℕ → Option Gap
next_gap gaps.Between c cs = if is_white c then Some gaps.Between else (if is_mark c cs then Some gaps.Opens else None)
next_gap gaps.Opens c cs = Some gaps.Comment
next_gap gaps.Comment c cs = if c == 10 then Some gaps.Between else (if is_mark c cs then Some gaps.Closes else Some gaps.Comment)
next_gap gaps.Closes c cs = Some gaps.Between

-- what follows the white space and comments at the front
unfoldable pub after_gap : Gap → List ℕ → List ℕ
after_gap g [] = []
after_gap g (c ∷ cs) = gap_rest (next_gap g c cs) (c ∷ cs) (λ next. after_gap next cs)

-- a hyphen belongs to a name only between two other characters of it
abbrev pub goes_on : ℕ → List ℕ → Bool
goes_on c cs = is_name_part c || ((c == 45) && begins is_name_part cs)

-- what follows the characters that go on with a name
unfoldable pub after_name : List ℕ → List ℕ
after_name [] = []
after_name (c ∷ cs) = if goes_on c cs then after_name cs else c ∷ cs

unfoldable pub after_digits : List ℕ → List ℕ
after_digits [] = []
after_digits (c ∷ cs) = if is_digit c then after_digits cs else c ∷ cs

-- what follows a number without its sign: 0 stands alone
unfoldable pub after_number : List ℕ → List ℕ
after_number [] = []
after_number (c ∷ cs) = if c == 48 then cs else after_digits cs

-- the part of a text before one of its ends
abbrev pub before : List ℕ → List ℕ → List ℕ
before text rest = take (length text - length rest) text

-- the number that decimal digits spell, and 2^64 for a greater one
unfoldable pub magnitude : List ℕ → ℕ
magnitude digits = fold (λ value digit. min (value * 10 + (digit - 48)) (2 ^ 64)) 0 digits

-- a lexical item, and what follows it
pub record Lexeme : Type 0 where
  pub token : Token
  pub rest : List ℕ

abbrev pub lexeme : Token → List ℕ → Lexeme
lexeme token rest = record { token = token; rest = rest }

abbrev pub word_or : Option Word → Token → Token
word_or None token = token
word_or (Some word) token = tokens.Word word

-- the lexical item that a name is
unfoldable pub name_token : List ℕ → Token
name_token name = if is_left_out name then tokens.OutOfProfile else word_or (word_of name) (if begins is_upper name then tokens.Upper name else tokens.Lower name)

-- a sign of several characters
unfoldable pub long_sign : List ℕ → Option Lexeme
long_sign text =
    if starts_with nat_eq text (codes "::=") then Some (lexeme (tokens.Sign signs.Assignment) (drop 3 text)) else (
    if starts_with nat_eq text (codes "...") then Some (lexeme (tokens.Sign signs.Ellipsis) (drop 3 text)) else (
    if starts_with nat_eq text (codes "..") then Some (lexeme (tokens.Sign signs.Range) (drop 2 text)) else None))

unfoldable pub short_sign : ℕ → Token
short_sign c =
    if c == 123 then tokens.Sign signs.LeftBrace else (
    if c == 125 then tokens.Sign signs.RightBrace else (
    if c == 40 then tokens.Sign signs.LeftParenthesis else (
    if c == 41 then tokens.Sign signs.RightParenthesis else (
    if c == 44 then tokens.Sign signs.Comma else (
    if c == 124 then tokens.Sign signs.Bar else (
    if c == 91 then tokens.OutOfProfile else tokens.Nothing))))))

abbrev pub lexeme_or : Option Lexeme → Lexeme → Lexeme
lexeme_or None other = other
lexeme_or (Some found) other = found

unfoldable pub number_lexeme : Bool → List ℕ → Lexeme
number_lexeme negative text =
    let value = magnitude (before text (after_number text)) in
    lexeme (tokens.Number (if negative then neg_ℤ (pos value) else pos value)) (after_number text)

-- the lexical item at the front of a text
unfoldable pub lexeme_at : List ℕ → Lexeme
lexeme_at [] = lexeme tokens.EndOfText []
lexeme_at (c ∷ cs) =
    if is_upper c || is_lower c then lexeme (name_token (before (c ∷ cs) (after_name (c ∷ cs)))) (after_name (c ∷ cs)) else (
    if is_digit c then number_lexeme false (c ∷ cs) else (
    if (c == 45) && begins is_digit cs then number_lexeme true cs else
    lexeme_or (long_sign (c ∷ cs)) (lexeme (short_sign c) cs)))
