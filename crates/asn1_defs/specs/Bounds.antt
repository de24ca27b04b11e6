-- The profile's bounds, by the items before the one that passes them, the nearest first (X.680, 19.1, 20.1, 25.1, 29.1, 51.4, 51.5).
use Rattle.std.specs.Prelude.{◌-◌, ◌^◌, List, ◌∷◌, Bool, true, false, not, ◌&&◌, Option, Some, None, ℤ, pos}
use Rattle.std.specs.Int.Signed.{le_z}
use Rattle.asn1_tokens.specs.declared.token.Word.{Word}
use Rattle.asn1_tokens.specs.declared.token.Word.TheVariants as words
use Rattle.asn1_tokens.specs.declared.token.Sign.TheVariants as signs
use Rattle.asn1_tokens.specs.declared.token.Token.{Token}
use Rattle.asn1_tokens.specs.declared.token.Token.TheVariants as tokens
use Rattle.asn1_syntax.specs.types.Shapes.{shape_of, sizes_characters}
use Rattle.asn1_syntax.specs.types.Sizes.{natural, least_high, integer_least, integer_greatest, greatest_beside}

-- the least and the greatest number that may stand at a place
pub record Range : Type 0 where
  pub least : ℤ
  pub greatest : ℤ

abbrev pub from_to : ℤ → ℤ → Option Range
from_to least greatest = Some (record { least = least; greatest = greatest })

-- the size that follows these items is one that varies, as that of a PrintableString does
abbrev pub sizes_text : List Token → Bool
sizes_text (tokens.Word word ∷ before) = sizes_characters (shape_of word)
sizes_text _ = false

-- behind this word
abbrev pub range_after : Word → Option Range
range_after words.Id = from_to (pos 0) (pos 65535)
range_after words.Code = from_to (pos 0) (pos 255)
range_after _ = None

-- behind this word and a bracket: the first of two bounds, or a size
abbrev pub range_first : Word → Option Range
range_first words.Integer = from_to integer_least integer_greatest
range_first words.Size = from_to (pos 1) (pos 65535)
range_first _ = None

-- behind this word, a bracket, a first number and `..`
abbrev pub range_second : Word → ℤ → List Token → Option Range
range_second words.Integer first before = from_to first (greatest_beside first)
range_second words.Size first (bracket ∷ before) = from_to (pos (least_high (sizes_text before) (natural first))) (pos 65535)
range_second _ first before = None

-- The numbers that may stand behind these items.
unfoldable pub range_behind : List Token → Option Range
range_behind (tokens.Word word ∷ before) = range_after word
range_behind (tokens.Sign signs.LeftParenthesis ∷ tokens.Word word ∷ before) = range_first word
range_behind (tokens.Sign signs.Range ∷ tokens.Number first ∷ tokens.Sign signs.LeftParenthesis ∷ tokens.Word word ∷ before) = range_second word first before
range_behind _ = None

abbrev pub is_outside : ℤ → Option Range → Bool
is_outside value None = false
is_outside value (Some range) = not (le_z range.least value && le_z value range.greatest)

abbrev pub is_integer_word : Word → Bool
is_integer_word words.Integer = true
is_integer_word _ = false

abbrev pub is_size_word : Word → Bool
is_size_word words.Size = true
is_size_word _ = false

-- Behind these items `...` makes an INTEGER extensible whose upper bound isn't that of a signed number of 64 bits.
unfoldable pub is_wide : List Token → Bool
is_wide (tokens.Sign signs.Comma ∷ tokens.Number high ∷ tokens.Sign signs.Range ∷ tokens.Number low ∷ tokens.Sign signs.LeftParenthesis ∷ tokens.Word word ∷ before) = is_integer_word word && not (le_z high (pos (2 ^ 63 - 1)))
is_wide _ = false

-- these items end with the only number of a size
unfoldable pub is_one_size : List Token → Bool
is_one_size (tokens.Number only ∷ tokens.Sign signs.LeftParenthesis ∷ tokens.Word word ∷ bracket ∷ before) = is_size_word word && sizes_text before
is_one_size _ = false
