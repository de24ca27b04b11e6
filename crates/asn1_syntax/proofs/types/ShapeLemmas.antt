-- What the two tables of types without another one inside say of each other.
use Rattle.std.proofs.Common.{◌≡◌, refl, ap, subst, Option, Some, None}
use Rattle.asn1_tokens.specs.declared.token.Word.{Word}
use Rattle.asn1_tokens.specs.declared.token.Word.TheVariants as words
use Rattle.asn1_syntax.specs.declared.types.definition.Size.{Size}
use Rattle.asn1_syntax.specs.declared.types.definition.Definition.{Definition}
use Rattle.asn1_syntax.specs.types.Shapes.{Shape, Alone, BoundsFollow, NamesFollow, StringFollows, TextSizeFollows, shape_of, Nothing, StringSize, TextSize, Parts, Simple, parts_of}

abbrev SameParts : (Option Size → Parts) → (Option Size → Parts) → Type 0
SameParts parts others = parts ≡ others

-- the types that a word of this shape begins have it as their word
abbrev Agrees : Word → Option Shape → Type 0
Agrees w None = w ≡ w
Agrees w (Some (Alone definition)) = parts_of definition ≡ Simple w Nothing
Agrees w (Some BoundsFollow) = w ≡ words.Integer
Agrees w (Some NamesFollow) = w ≡ words.Enumerated
Agrees w (Some (StringFollows kind)) = SameParts (λ size. parts_of (kind size)) (λ size. Simple w (StringSize size))
Agrees w (Some (TextSizeFollows kind)) = SameParts (λ size. parts_of (kind size)) (λ size. Simple w (TextSize size))

-- each row of the other words is proved as this one is
agrees : (w : Word) → Agrees w (shape_of w)
agrees words.Definitions = refl
agrees _ = refl

pub alone_parts : (w : Word) (definition : Definition) → shape_of w ≡ Some (Alone definition) → parts_of definition ≡ Simple w Nothing
alone_parts w definition is = subst (Agrees w) is (agrees w)

pub string_parts : (w : Word) (kind : Option Size → Definition) → shape_of w ≡ Some (StringFollows kind) → (size : Option Size) → parts_of (kind size) ≡ Simple w (StringSize size)
string_parts w kind is size = ap (λ (parts : Option Size → Parts). parts size) (subst (Agrees w) is (agrees w))

pub text_parts : (w : Word) (kind : Option Size → Definition) → shape_of w ≡ Some (TextSizeFollows kind) → (size : Option Size) → parts_of (kind size) ≡ Simple w (TextSize size)
text_parts w kind is size = ap (λ (parts : Option Size → Parts). parts size) (subst (Agrees w) is (agrees w))

pub bounds_word : (w : Word) → shape_of w ≡ Some BoundsFollow → w ≡ words.Integer
bounds_word w is = subst (Agrees w) is (agrees w)

pub names_word : (w : Word) → shape_of w ≡ Some NamesFollow → w ≡ words.Enumerated
names_word w is = subst (Agrees w) is (agrees w)
