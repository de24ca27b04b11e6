-- The types without another one inside (X.680, clauses 18 to 23 and 41): each is a word and what follows it. A further type that goes on
-- as one of these does is a row of `shape_of` and a row of `parts_of`; nothing else that is said of types has a row for each word.
use Rattle.std.specs.Prelude.{ℕ, List, Bool, true, false, Option, Some, None, ℤ}
use Rattle.asn1_tokens.specs.declared.token.Word.{Word}
use Rattle.asn1_tokens.specs.declared.token.Word.TheVariants as words
use Rattle.asn1_syntax.specs.declared.types.definition.Size.{Size}
use Rattle.asn1_syntax.specs.declared.types.definition.TypeId.{TypeId}
use Rattle.asn1_syntax.specs.declared.types.definition.Component.{Component}
use Rattle.asn1_syntax.specs.declared.types.definition.Extensible.{Extensible}
use Rattle.asn1_syntax.specs.declared.types.definition.Definition.{Definition}
use Rattle.asn1_syntax.specs.declared.types.definition.Definition.TheVariants as types
use Rattle.asn1_syntax.specs.declared.types.members.Group.{Group}
use Rattle.asn1_syntax.specs.declared.types.members.Group.TheVariants as groups

-- What follows the word of such a type, and which type that makes: nothing; bounds in brackets; names in braces; the word STRING and a
-- size, where one stands; a size that varies, where one stands.
pub data Shape : Type 0 where
  Alone : Definition → Shape
  BoundsFollow : Shape
  NamesFollow : Shape
  StringFollows : (Option Size → Definition) → Shape
  TextSizeFollows : (Option Size → Definition) → Shape

-- the shape of the type that begins with this word, if one without another inside does
abbrev pub shape_of : Word → Option Shape
shape_of words.Boolean = Some (Alone types.Boolean)
shape_of words.Integer = Some BoundsFollow
shape_of words.Enumerated = Some NamesFollow
shape_of words.Bit = Some (StringFollows (λ size. types.BitString size))
shape_of words.Octet = Some (StringFollows (λ size. types.OctetString size))
shape_of words.PrintableString = Some (TextSizeFollows (λ size. types.PrintableString size))
shape_of _ = None

-- the size that stands there is one that varies
abbrev pub sizes_characters : Option Shape → Bool
sizes_characters (Some (TextSizeFollows kind)) = true
sizes_characters _ = false

-- the type may end with its word
abbrev pub ends_alone : Option Shape → Bool
ends_alone (Some (Alone definition)) = true
ends_alone (Some (TextSizeFollows kind)) = true
ends_alone _ = false

-- ---- the other way: what a type is written with

-- what follows the word of a type without another one inside
pub data Content : Type 0 where
  Nothing : Content
  Interval : ℤ → ℤ → Bool → Content
  NameList : Extensible (List ℕ) → Content
  StringSize : Option Size → Content
  TextSize : Option Size → Content

-- the parts of a type: a word with its content; members; elements; the name of a type; the name of a set behind a word
pub data Parts : Type 0 where
  Simple : Word → Content → Parts
  Composed : Group → Extensible Component → Parts
  Elements : Option Size → TypeId → Parts
  Named : List ℕ → Parts
  SetOf : Word → List ℕ → Parts

abbrev pub parts_of : Definition → Parts
parts_of types.Boolean = Simple words.Boolean Nothing
parts_of (types.Integer low high extensible) = Simple words.Integer (Interval low high extensible)
parts_of (types.Enumerated names) = Simple words.Enumerated (NameList names)
parts_of (types.BitString size) = Simple words.Bit (StringSize size)
parts_of (types.OctetString size) = Simple words.Octet (StringSize size)
parts_of (types.PrintableString size) = Simple words.PrintableString (TextSize size)
parts_of (types.Sequence members) = Composed groups.Sequence members
parts_of (types.Choice members) = Composed groups.Choice members
parts_of (types.SequenceOf size element) = Elements size element
parts_of (types.Reference name) = Named name
parts_of (types.IeContainer set) = SetOf words.ProtocolIeContainer set
parts_of (types.Pdu set) = SetOf words.ProtocolPdu set
