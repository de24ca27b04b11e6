-- A type without another one inside is a word with its content.
use Rattle.std.proofs.Common.{◌≡◌, ℕ, sym, ap, Some}
use Rattle.asn1_tokens.specs.declared.token.Word.{Word}
use Rattle.asn1_syntax.specs.declared.types.definition.Definition.{Definition}
use Rattle.asn1_syntax.specs.declared.types.definition.Definition.TheVariants as types
use Rattle.asn1_syntax.specs.types.Reading.{Left}
use Rattle.asn1_syntax.specs.types.Shapes.{Shape, shape_of, Content, Nothing, Interval, NameList, StringSize, TextSize, Simple, parts_of}
use Rattle.asn1_syntax.proofs.types.ShapeLemmas.{alone_parts, string_parts, text_parts, bounds_word, names_word}
use Rattle.asn1_defs.specs.Links.{IsInside}
use Rattle.asn1_defs.specs.TypeMeanings.{Follows, alone, bounds, names, string, text_size}

pub followed_parts : (w : Word) {shape : Shape} {definition : Definition} {ts rest : Left} → shape_of w ≡ Some shape → Follows shape ts definition rest → (content : Content) × (parts_of definition ≡ Simple w content)
followed_parts w is (alone {definition}) = (Nothing, alone_parts w definition is)
followed_parts w is (bounds {low} {high} {extensible} a b c d e f) =
    (Interval low high extensible, ap (λ (v : Word). Simple v (Interval low high extensible)) (sym (bounds_word w is)))
followed_parts w is (names {listed} a n) = (NameList listed, ap (λ (v : Word). Simple v (NameList listed)) (sym (names_word w is)))
followed_parts w is (string {kind} {size} a z) = (StringSize size, string_parts w kind is size)
followed_parts w is (text_size {kind} {size} z) = (TextSize size, text_parts w kind is size)

-- no type stands inside it
pub simple_inside : (definition : Definition) (w : Word) (content : Content) → parts_of definition ≡ Simple w content → (n : ℕ) → IsInside n definition
simple_inside (types.Sequence members) w content h n = cc
simple_inside (types.Choice members) w content h n = cc
simple_inside (types.SequenceOf size element) w content h n = cc
simple_inside _ w content h n = tt
