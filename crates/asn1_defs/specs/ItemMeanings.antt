-- What single items and short rows of them mean: numbers, sizes (X.680, 51.5), extension marks and lists of names (clause 20).
-- Each relation tells what the items from one place to another mean.
use Rattle.std.specs.Prelude.{◌≡◌, ℕ, List, [], ◌∷◌, Bool, true, false, Option, Some, None, pos}
use Rattle.asn1_tokens.specs.declared.token.Word.TheVariants as words
use Rattle.asn1_tokens.specs.declared.token.Sign.{Sign}
use Rattle.asn1_tokens.specs.declared.token.Sign.TheVariants as signs
use Rattle.asn1_tokens.specs.declared.token.Token.{Token}
use Rattle.asn1_tokens.specs.declared.token.Token.TheVariants as tokens
use Rattle.asn1_tokens.specs.Stream.{Placed, first_place}
use Rattle.asn1_syntax.specs.declared.types.definition.Size.{Size}
use Rattle.asn1_syntax.specs.declared.types.definition.Extensible.{Extensible}
use Rattle.asn1_syntax.specs.types.Reading.{Left, begins_with_sign}

-- this item
pub data The (token : Token) : Left → Left → Type 0 where
  is : {p : Placed} {rest : Left} → p.token ≡ token → The token (p ∷ rest) rest

abbrev pub Without : Sign → Left → Type 0
Without sign ts = begins_with_sign sign ts ≡ false

-- where the first of these items stands
abbrev pub start_of : Left → ℕ
start_of ts = (first_place ts).start

-- `, ...`, or nothing
pub data Extends : Left → Bool → Left → Type 0 where
  extends : {ts a rest : Left} → The (tokens.Sign signs.Comma) ts a → The (tokens.Sign signs.Ellipsis) a rest → Extends ts true rest
  doesn't : {ts : Left} → Without signs.Comma ts → Extends ts false ts

-- the second of two bounds, or none: then both are one
pub data HighBound (low : ℕ) : Left → ℕ → Left → Type 0 where
  given : {high : ℕ} {ts a rest : Left} → The (tokens.Sign signs.Range) ts a → The (tokens.Number (pos high)) a rest → HighBound low ts high rest
  same : {ts : Left} → Without signs.Range ts → HighBound low ts low ts

-- `(SIZE (low..high, ...))`
pub data ASize : Left → Size → Left → Type 0 where
  size : {low high : ℕ} {extensible : Bool} {ts a b c d e f g rest : Left}
      → The (tokens.Sign signs.LeftParenthesis) ts a → The (tokens.Word words.Size) a b → The (tokens.Sign signs.LeftParenthesis) b c
      → The (tokens.Number (pos low)) c d → HighBound low d high e → Extends e extensible f
      → The (tokens.Sign signs.RightParenthesis) f g → The (tokens.Sign signs.RightParenthesis) g rest
      → ASize ts (record { low = low; high = high; extensible = extensible }) rest

pub data OptionalSize : Left → Option Size → Left → Type 0 where
  sized : {found : Size} {ts rest : Left} → ASize ts found rest → OptionalSize ts (Some found) rest
  unsized : {ts : Left} → Without signs.LeftParenthesis ts → OptionalSize ts None ts

-- `{{Set}}`: the set's name, and where it stands
pub data SetName : Left → List ℕ → ℕ → Left → Type 0 where
  set_name : {name : List ℕ} {ts a b c d rest : Left}
      → The (tokens.Sign signs.LeftBrace) ts a → The (tokens.Sign signs.LeftBrace) a b → The (tokens.Upper name) b c
      → The (tokens.Sign signs.RightBrace) c d → The (tokens.Sign signs.RightBrace) d rest → SetName ts name (start_of b) rest

-- the names behind the `...` of a list, up to its brace
pub data AddedNames : Left → List (List ℕ) → Left → Type 0 where
  none : {ts rest : Left} → The (tokens.Sign signs.RightBrace) ts rest → AddedNames ts [] rest
  one : {name : List ℕ} {names : List (List ℕ)} {ts a b rest : Left} → The (tokens.Sign signs.Comma) ts a → The (tokens.Lower name) a b → AddedNames b names rest → AddedNames ts (name ∷ names) rest

-- a list of names, up to its brace
pub data Names : Left → Extensible (List ℕ) → Left → Type 0 where
  mark : {added : List (List ℕ)} {ts a rest : Left} → The (tokens.Sign signs.Ellipsis) ts a → AddedNames a added rest → Names ts (record { root = []; additions = Some added }) rest
  last : {name : List ℕ} {ts a rest : Left} → The (tokens.Lower name) ts a → The (tokens.Sign signs.RightBrace) a rest → Names ts (record { root = name ∷ []; additions = None }) rest
  more : {name : List ℕ} {names : Extensible (List ℕ)} {ts a b rest : Left} → The (tokens.Lower name) ts a → The (tokens.Sign signs.Comma) a b → Names b names rest → Names ts (record { root = name ∷ names.root; additions = names.additions }) rest
