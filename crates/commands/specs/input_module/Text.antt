-- The text of a module in an input: the lines after the header, up to and with the first line `END`
-- or to the input's end.
use Rattle.std.specs.Prelude.{◌≡◌, ℕ, List, [], ◌∷◌, ◌++◌, drop, Bool, true, false, codes}
use Rattle.std.specs.List.{AllByRecursion}
use Rattle.std.specs.Str.{bytes_eq}
use Rattle.asn1_tokens.specs.Stream.{items_of, first_token}
use Rattle.asn1_tokens.specs.declared.token.Token.{Token}
use Rattle.asn1_tokens.specs.declared.token.Token.TheVariants as tokens
use Rattle.asn1_defs.specs.Items.{IsGap}
use Rattle.asn1_syntax.specs.declared.assignments.assignment.Syntax.{Syntax}
use Rattle.asn1_defs.specs.Readings.{Reads}

abbrev pub is_end : List ℕ → Bool
is_end line = bytes_eq line (codes "END")

-- none of the lines is `END`
abbrev pub IsUnclosed : List (List ℕ) → Type 0
IsUnclosed lines = AllByRecursion (λ line. is_end line ≡ false) lines

-- the last one is, and no other
pub record IsClosed (lines : List (List ℕ)) : Type 0 where
  pub front : List (List ℕ)
  pub last : List ℕ
  pub parts : lines ≡ front ++ last ∷ []
  pub others : IsUnclosed front
  pub end : is_end last ≡ true

abbrev pub is_end_of_text : Token → Bool
is_end_of_text tokens.EndOfText = true
is_end_of_text tokens.Nothing = false
is_end_of_text tokens.OutOfProfile = false
is_end_of_text (tokens.Upper name) = false
is_end_of_text (tokens.Lower name) = false
is_end_of_text (tokens.Word word) = false
is_end_of_text (tokens.Number value) = false
is_end_of_text (tokens.Sign sign) = false

-- nothing but white space and comments
abbrev pub IsBlank : List ℕ → Type 0
IsBlank text = IsGap text []

-- the first lexical item is the text's end
abbrev pub is_blank : List ℕ → Bool
is_blank text = is_end_of_text (first_token (items_of text))

-- the text is a module, with nothing but white space and comments after it
pub record IsOneModule (text : List ℕ) (m : Syntax) : Type 0 where
  pub octets : ℕ
  pub reads : Reads text octets m
  pub alone : IsBlank (drop octets text)
