-- Numbers, sizes and lists of names hold no name of upper form.
use Rattle.std.proofs.Common.{ℕ, List, [], refl}
use Rattle.std.specs.Prelude.{Bool, Option, ℤ, pos}
use Rattle.asn1_tokens.specs.declared.token.Word.TheVariants as words
use Rattle.asn1_tokens.specs.declared.token.Sign.TheVariants as signs
use Rattle.asn1_tokens.specs.declared.token.Token.TheVariants as tokens
use Rattle.asn1_tokens.specs.Stream.{Placed}
use Rattle.asn1_syntax.specs.declared.types.definition.Size.{Size}
use Rattle.asn1_syntax.specs.declared.types.definition.Extensible.{Extensible}
use Rattle.asn1_defs.specs.declared.names.Kind.TheVariants as kinds
use Rattle.asn1_defs.specs.ItemMeanings.{The, Extends, extends, doesn't, HighBound, given, same, ASize, size, OptionalSize, sized, unsized, AddedNames, none, one as another, Names, mark, last, more}
use Rattle.law_asn1.proofs.names.Passing.{Passes, ◌then◌, none_passed, plain_passed, sign_passed}

-- items that hold nothing, and behind which a name is a type's
abbrev pub Bare : List Placed → List Placed → Type 0
Bare ts rest = Passes kinds.Type kinds.Type ts rest []

pub extends_passed : {x : Bool} {ts rest : List Placed} → Extends ts x rest → Bare ts rest
extends_passed (extends a b) = sign_passed signs.Comma kinds.Type a then sign_passed signs.Ellipsis kinds.Type b
extends_passed {rest} (doesn't w) = none_passed kinds.Type rest

pub number_passed : (n : ℤ) {ts rest : List Placed} → The (tokens.Number n) ts rest → Bare ts rest
number_passed n the = plain_passed (tokens.Number n) refl kinds.Type the

pub lower_passed : (name : List ℕ) {ts rest : List Placed} → The (tokens.Lower name) ts rest → Bare ts rest
lower_passed name the = plain_passed (tokens.Lower name) refl kinds.Type the

high_passed : {low high : ℕ} {ts rest : List Placed} → HighBound low ts high rest → Bare ts rest
high_passed (given {high} r n) = sign_passed signs.Range kinds.Type r then number_passed (pos high) n
high_passed {rest} (same w) = none_passed kinds.Type rest

size_passed : {found : Size} {ts rest : List Placed} → ASize ts found rest → Bare ts rest
size_passed (size {low} a b c n h e f g) =
    sign_passed signs.LeftParenthesis kinds.Type a then plain_passed (tokens.Word words.Size) refl kinds.Type b then
    sign_passed signs.LeftParenthesis kinds.Type c then number_passed (pos low) n then high_passed h then extends_passed e then
    sign_passed signs.RightParenthesis kinds.Type f then sign_passed signs.RightParenthesis kinds.Type g

pub optional_size_passed : {found : Option Size} {ts rest : List Placed} → OptionalSize ts found rest → Bare ts rest
optional_size_passed (sized s) = size_passed s
optional_size_passed {rest} (unsized w) = none_passed kinds.Type rest

added_passed : {names : List (List ℕ)} {ts rest : List Placed} → AddedNames ts names rest → Bare ts rest
added_passed (none e) = sign_passed signs.RightBrace kinds.Type e
added_passed (another {name} e n r) = sign_passed signs.Comma kinds.Type e then lower_passed name n then added_passed r

pub names_passed : {names : Extensible (List ℕ)} {ts rest : List Placed} → Names ts names rest → Bare ts rest
names_passed (mark e r) = sign_passed signs.Ellipsis kinds.Type e then added_passed r
names_passed (last {name} n e) = lower_passed name n then sign_passed signs.RightBrace kinds.Type e
names_passed (more {name} n e r) = lower_passed name n then sign_passed signs.Comma kinds.Type e then names_passed r
