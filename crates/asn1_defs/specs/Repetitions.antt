-- What a module gives once, by the items before, the nearest first: the names of a list, the ids and codes of a set, the names of
-- assignments.
use Rattle.std.specs.Prelude.{ℕ, zero, suc, ◌==◌, List, [], ◌∷◌, ◌++◌, Bool, true, false, if◌then◌else◌}
use Rattle.std.specs.List.{list_any}
use Rattle.asn1_tokens.specs.declared.token.Word.{Word}
use Rattle.asn1_tokens.specs.declared.token.Word.TheVariants as words
use Rattle.asn1_tokens.specs.declared.token.Sign.TheVariants as signs
use Rattle.asn1_tokens.specs.declared.token.Token.{Token}
use Rattle.asn1_tokens.specs.declared.token.Token.TheVariants as tokens
use Rattle.asn1_syntax.specs.declared.types.definition.Extensible.{Extensible}
use Rattle.asn1_tokens.specs.Words.{is_word}
use Rattle.asn1_syntax.specs.types.Shapes.{shape_of, ends_alone}
use Rattle.asn1_syntax.specs.types.Sizes.{natural}
use Rattle.asn1_syntax.specs.types.Members.{no_parts, with_part, extended}

-- ---- the names of a list in braces

-- a name of the list stands behind its brace or a comma
abbrev pub begins_entry : List Token → Bool
begins_entry (tokens.Sign signs.LeftBrace ∷ before) = true
begins_entry (tokens.Sign signs.Comma ∷ before) = true
begins_entry _ = false

-- The names of the list that these items are in, those of its root and those behind its `...`. What stands in brackets inside the
-- list, so many deep, is passed over.
unfoldable pub listed : ℕ → List Token → Extensible (List ℕ)
listed depth [] = no_parts
listed depth (tokens.Sign signs.RightBrace ∷ before) = listed (suc depth) before
listed depth (tokens.Sign signs.RightParenthesis ∷ before) = listed (suc depth) before
listed zero (tokens.Sign signs.LeftBrace ∷ before) = no_parts
listed (suc depth) (tokens.Sign signs.LeftBrace ∷ before) = listed depth before
listed zero (tokens.Sign signs.LeftParenthesis ∷ before) = no_parts
listed (suc depth) (tokens.Sign signs.LeftParenthesis ∷ before) = listed depth before
listed zero (tokens.Sign signs.Ellipsis ∷ before) = extended (listed zero before)
listed zero (tokens.Lower name ∷ before) = with_part (listed zero before) name
listed depth (_ ∷ before) = listed depth before

-- ---- the ids and codes of a set

-- the numbers behind this word, since the word that begins the set
unfoldable pub numbers_behind : Word → Word → List Token → List ℕ
numbers_behind word set [] = []
numbers_behind word set (tokens.Number number ∷ tokens.Word found ∷ before) = if is_word found word then numbers_behind word set before ++ natural number ∷ [] else numbers_behind word set before
numbers_behind word set (tokens.Word found ∷ before) = if is_word found set then [] else numbers_behind word set before
numbers_behind word set (_ ∷ before) = numbers_behind word set before

abbrev pub ids : List Token → List ℕ
ids before = numbers_behind words.Id words.ProtocolIes before

abbrev pub codes_given : List Token → List ℕ
codes_given before = numbers_behind words.Code words.ElementaryProcedure before

abbrev pub is_among : ℕ → List ℕ → Bool
is_among number numbers = list_any (λ other. other == number) numbers

abbrev pub is_given_behind : Word → ℕ → List Token → Bool
is_given_behind words.Id number before = is_among number (ids before)
is_given_behind words.Code number before = is_among number (codes_given before)
is_given_behind _ number before = false

-- an id or a code that was given before
abbrev pub is_given : ℕ → List Token → Bool
is_given number (tokens.Word word ∷ before) = is_given_behind word number before
is_given number _ = false

-- ---- the names of assignments

abbrev pub ends_with_word : Word → Bool
ends_with_word words.Begin = true
ends_with_word words.String = true
ends_with_word word = ends_alone (shape_of word)

-- The word BEGIN stands last, or the end of a type or a set: a name of upper form is that of an assignment here.
abbrev pub begins_assignment : List Token → Bool
begins_assignment (tokens.Word word ∷ before) = ends_with_word word
begins_assignment (tokens.Upper name ∷ before) = true
begins_assignment (tokens.Sign signs.RightBrace ∷ before) = true
begins_assignment (tokens.Sign signs.RightParenthesis ∷ before) = true
begins_assignment _ = false

unfoldable pub assigned : List Token → List (List ℕ)
assigned [] = []
assigned (tokens.Upper name ∷ before) = if begins_assignment before then assigned before ++ name ∷ [] else assigned before
assigned (_ ∷ before) = assigned before

-- how many types were assigned
unfoldable pub types_assigned : List Token → ℕ
types_assigned [] = 0
types_assigned (tokens.Sign signs.Assignment ∷ tokens.Upper name ∷ before) = suc (types_assigned before)
types_assigned (_ ∷ before) = types_assigned before
