-- Gaps and items: what spells a name and a number, what a gap and an item are, and which items a text has (X.680, 12.1 to 12.37).
use Rattle.std.specs.Prelude.{◌≡◌, ℕ, List, [], ◌∷◌, ◌++◌, ◌⊎◌, Bool, true, false, ◌||◌, ◌&&◌, ◌==◌, nat_eq, codes, pos}
use Rattle.std.specs.List.{starts_with}
use Rattle.std.proofs.Common.{neg_ℤ}
use Rattle.asn1_tokens.specs.declared.token.Sign.TheVariants as signs
use Rattle.asn1_tokens.specs.declared.token.Token.{Token}
use Rattle.asn1_tokens.specs.declared.token.Token.TheVariants as tokens
use Rattle.asn1_tokens.specs.Scan.{is_upper, is_lower, is_digit, is_name_part, is_white, is_mark, begins, magnitude, name_token, lexeme}
use Rattle.asn1_tokens.specs.Stream.{Placed, placed, is_last}

-- What may follow the first letter of a name: letters and digits, and hyphens before one of these.
abbrev pub IsNameRest : List ℕ → Type 0
IsNameRest [] = Unit {0}
IsNameRest (c ∷ cs) = ((is_name_part c ≡ true) × IsNameRest cs) ⊎ ((c ≡ 45) × (begins is_name_part cs ≡ true) × IsNameRest cs)

-- a letter and what may follow it
abbrev pub IsName : List ℕ → Type 0
IsName [] = ⊥
IsName (c ∷ cs) = (is_upper c || is_lower c ≡ true) × IsNameRest cs

abbrev pub AreDigits : List ℕ → Type 0
AreDigits [] = Unit {0}
AreDigits (c ∷ cs) = (is_digit c ≡ true) × AreDigits cs

-- one zero, or digits of which the first is none
abbrev pub IsNumber : List ℕ → Type 0
IsNumber [] = ⊥
IsNumber (c ∷ cs) = ((c ≡ 48) × (cs ≡ [])) ⊎ ((c ≡ 48 → ⊥) × AreDigits (c ∷ cs))

-- a front of the text is of this form, the rest follows it, and no longer front is of this form
pub record IsLongest (P : List ℕ → Type 0) (text rest : List ℕ) : Type 0 where
  pub front : List ℕ
  pub split : text ≡ front ++ rest
  pub is : P front
  pub longest : (more after : List ℕ) → rest ≡ more ++ after → P (front ++ more) → more ≡ []

abbrev pub begins_comment : List ℕ → Bool
begins_comment [] = false
begins_comment (c ∷ cs) = is_mark c cs

-- A comment behind its two hyphens, and what follows it: it ends with the next two hyphens, with its line, or with the text
-- (X.680, 12.6.3).
pub data Comment : List ℕ → List ℕ → Type 0 where
  closed : {rest : List ℕ} → Comment (45 ∷ 45 ∷ rest) rest
  line : {rest : List ℕ} → Comment (10 ∷ rest) rest
  ended : Comment [] []
  goes_on : {c : ℕ} {cs rest : List ℕ} → (c == 10) ≡ false → is_mark c cs ≡ false → Comment cs rest → Comment (c ∷ cs) rest

-- white space and comments up to an item, or to the text's end (X.680, 12.1.6, 12.6)
pub data IsGap : List ℕ → List ℕ → Type 0 where
  ends : {text : List ℕ} → begins is_white text ≡ false → begins_comment text ≡ false → IsGap text text
  white : {c : ℕ} {cs here : List ℕ} → is_white c ≡ true → IsGap cs here → IsGap (c ∷ cs) here
  comment : {cs rest here : List ℕ} → Comment cs rest → IsGap rest here → IsGap (45 ∷ 45 ∷ cs) here

-- the signs { } ( ) , and the bar, and [, which the profile leaves out
abbrev pub is_short : ℕ → Bool
is_short c = (c == 123) || ((c == 125) || ((c == 40) || ((c == 41) || ((c == 44) || ((c == 124) || (c == 91))))))

-- an item begins with this octet and what follows it
abbrev pub begins_item : ℕ → List ℕ → Bool
begins_item c cs =
    (is_upper c || is_lower c) || (is_digit c || (((c == 45) && begins is_digit cs) || (starts_with nat_eq (c ∷ cs) (codes "::=") || (starts_with nat_eq (c ∷ cs) (codes "..") || is_short c))))

-- The lexical item at the front of a text, and what follows it (X.680, 12.2 to 12.37): it is as long as it can be.
pub data IsItem : List ℕ → Token → List ℕ → Type 0 where
  name : {text rest : List ℕ} (found : IsLongest IsName text rest) → IsItem text (name_token found.front) rest
  number : {text rest : List ℕ} (found : IsLongest IsNumber text rest) → IsItem text (tokens.Number (pos (magnitude found.front))) rest
  negative : {text rest : List ℕ} (found : IsLongest IsNumber text rest) → IsItem (45 ∷ text) (tokens.Number (neg_ℤ (pos (magnitude found.front)))) rest
  assignment : {rest : List ℕ} → IsItem (58 ∷ 58 ∷ 61 ∷ rest) (tokens.Sign signs.Assignment) rest
  ellipsis : {rest : List ℕ} → IsItem (46 ∷ 46 ∷ 46 ∷ rest) (tokens.Sign signs.Ellipsis) rest
  range : {rest : List ℕ} → begins (λ c. c == 46) rest ≡ false → IsItem (46 ∷ 46 ∷ rest) (tokens.Sign signs.Range) rest
  left_brace : {rest : List ℕ} → IsItem (123 ∷ rest) (tokens.Sign signs.LeftBrace) rest
  right_brace : {rest : List ℕ} → IsItem (125 ∷ rest) (tokens.Sign signs.RightBrace) rest
  left_parenthesis : {rest : List ℕ} → IsItem (40 ∷ rest) (tokens.Sign signs.LeftParenthesis) rest
  right_parenthesis : {rest : List ℕ} → IsItem (41 ∷ rest) (tokens.Sign signs.RightParenthesis) rest
  comma : {rest : List ℕ} → IsItem (44 ∷ rest) (tokens.Sign signs.Comma) rest
  bar : {rest : List ℕ} → IsItem (124 ∷ rest) (tokens.Sign signs.Bar) rest
  left_out : {rest : List ℕ} → IsItem (91 ∷ rest) tokens.OutOfProfile rest
  nothing : {c : ℕ} {rest : List ℕ} → begins_item c rest ≡ false → IsItem (c ∷ rest) tokens.Nothing rest
  at_end : IsItem [] tokens.EndOfText []

-- the items of what is left of a text of total octets, one behind another, up to the first that no module goes on with
pub data AreItems (total : ℕ) : List ℕ → List Placed → Type 0 where
  last : {text here rest : List ℕ} {token : Token} → IsGap text here → IsItem here token rest → is_last token ≡ true → AreItems total text (placed total here (lexeme token rest) ∷ [])
  more : {text here rest : List ℕ} {token : Token} {items : List Placed} → IsGap text here → IsItem here token rest → is_last token ≡ false → AreItems total rest items → AreItems total text (placed total here (lexeme token rest) ∷ items)
