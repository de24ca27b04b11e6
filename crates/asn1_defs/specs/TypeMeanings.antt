-- What types mean (X.680, clause 17): each joins the module's list of types where it ends, behind those inside it, and its place in
-- that list is its number.
use Rattle.std.specs.Prelude.{◌≡◌, ℕ, List, [], ◌∷◌, ◌++◌, Bool, true, false, Option, Some, None, ℤ}
use Rattle.asn1_tokens.specs.declared.token.Word.{Word}
use Rattle.asn1_tokens.specs.declared.token.Word.TheVariants as words
use Rattle.asn1_tokens.specs.declared.token.Sign.TheVariants as signs
use Rattle.asn1_tokens.specs.declared.token.Token.TheVariants as tokens
use Rattle.asn1_syntax.specs.declared.types.definition.Size.{Size}
use Rattle.asn1_syntax.specs.declared.types.definition.TypeId.{TypeId}
use Rattle.asn1_syntax.specs.declared.types.definition.Component.{Component}
use Rattle.asn1_syntax.specs.declared.types.definition.Extensible.{Extensible}
use Rattle.asn1_syntax.specs.declared.types.definition.Definition.{Definition}
use Rattle.asn1_syntax.specs.declared.types.definition.Definition.TheVariants as types
use Rattle.asn1_syntax.specs.declared.types.definition.Node.{Node}
use Rattle.asn1_syntax.specs.declared.types.members.Group.{Group}
use Rattle.asn1_syntax.specs.declared.types.members.Group.TheVariants as groups
use Rattle.asn1_syntax.specs.types.Reading.{Left, begins_with}
use Rattle.asn1_syntax.specs.types.Members.{no_parts, component}
use Rattle.asn1_syntax.specs.types.Types.{node, next_id}
use Rattle.asn1_syntax.specs.types.Shapes.{Shape, Alone, BoundsFollow, NamesFollow, StringFollows, TextSizeFollows, shape_of}
use Rattle.asn1_defs.specs.ItemMeanings.{The, start_of, Extends, OptionalSize, SetName, Names}

-- What follows the word of a type of this shape: the type.
pub data Follows : Shape → Left → Definition → Left → Type 0 where
  alone : {definition : Definition} {ts : Left} → Follows (Alone definition) ts definition ts
  bounds : {low high : ℤ} {extensible : Bool} {ts a b c d e rest : Left}
      → The (tokens.Sign signs.LeftParenthesis) ts a → The (tokens.Number low) a b → The (tokens.Sign signs.Range) b c → The (tokens.Number high) c d
      → Extends d extensible e → The (tokens.Sign signs.RightParenthesis) e rest
      → Follows BoundsFollow ts (types.Integer low high extensible) rest
  names : {listed : Extensible (List ℕ)} {ts a rest : Left} → The (tokens.Sign signs.LeftBrace) ts a → Names a listed rest → Follows NamesFollow ts (types.Enumerated listed) rest
  string : {kind : Option Size → Definition} {size : Option Size} {ts a rest : Left} → The (tokens.Word words.String) ts a → OptionalSize a size rest → Follows (StringFollows kind) ts (kind size) rest
  text_size : {kind : Option Size → Definition} {size : Option Size} {ts rest : Left} → OptionalSize ts size rest → Follows (TextSizeFollows kind) ts (kind size) rest

-- What follows the first word of a type without another one inside: the type, with the place of the word, or of the name that it
-- refers by.
pub data Plain : Word → ℕ → Left → Node → Left → Type 0 where
  simple : {word : Word} {place : ℕ} {shape : Shape} {definition : Definition} {ts rest : Left} → shape_of word ≡ Some shape → Follows shape ts definition rest → Plain word place ts (node definition place) rest
  ie_container : {place at : ℕ} {set : List ℕ} {ts rest : Left} → SetName ts set at rest → Plain words.ProtocolIeContainer place ts (node (types.IeContainer set) at) rest
  pdu : {place at : ℕ} {set : List ℕ} {ts rest : Left} → SetName ts set at rest → Plain words.ProtocolPdu place ts (node (types.Pdu set) at) rest

-- a component may be optional
pub data MayBeOptional : Group → Left → Bool → Left → Type 0 where
  optional : {ts rest : Left} → The (tokens.Word words.Optional) ts rest → MayBeOptional groups.Sequence ts true rest
  required : {ts : Left} → begins_with words.Optional ts ≡ false → MayBeOptional groups.Sequence ts false ts
  alternative : {ts : Left} → MayBeOptional groups.Choice ts false ts

-- What items may be: a type; what follows its first word, which stands there; a component or an alternative; those up to the brace
-- that ends them; those behind `...`.
pub data Piece : Type 0 where
  AType : Piece
  Behind : Word → ℕ → Piece
  AMember : Group → Piece
  Members : Group → Piece
  Added : Group → Piece

-- what such items mean: a type's number, or members
abbrev pub Value : Piece → Type 0
Value AType = TypeId
Value (Behind word place) = TypeId
Value (AMember group) = Component
Value (Members group) = Extensible Component
Value (Added group) = List Component

-- the list of types with one more
abbrev pub with_type : List Node → Node → List Node
with_type nodes new = nodes ++ new ∷ []

-- Where nodes are the types that ended before, the items from ts to rest mean this, and all are the types that have ended then.
pub data Means : (piece : Piece) → List Node → Left → Value piece → List Node → Left → Type 0 where
  reference : {nodes : List Node} {name : List ℕ} {ts rest : Left} → The (tokens.Upper name) ts rest → Means AType nodes ts (next_id nodes) (with_type nodes (node (types.Reference name) (start_of ts))) rest
  worded : {nodes all : List Node} {id : TypeId} {word : Word} {ts a rest : Left} → The (tokens.Word word) ts a → Means (Behind word (start_of ts)) nodes a id all rest → Means AType nodes ts id all rest
  plain : {nodes : List Node} {word : Word} {place : ℕ} {new : Node} {ts rest : Left} → Plain word place ts new rest → Means (Behind word place) nodes ts (next_id nodes) (with_type nodes new) rest
  sequence_of : {nodes all : List Node} {place : ℕ} {size : Option Size} {element : TypeId} {ts a b rest : Left}
      → OptionalSize ts size a → The (tokens.Word words.Of) a b → Means AType nodes b element all rest
      → Means (Behind words.Sequence place) nodes ts (next_id all) (with_type all (node (types.SequenceOf size element) place)) rest
  empty_sequence : {nodes : List Node} {place : ℕ} {ts a rest : Left} → The (tokens.Sign signs.LeftBrace) ts a → The (tokens.Sign signs.RightBrace) a rest → Means (Behind words.Sequence place) nodes ts (next_id nodes) (with_type nodes (node (types.Sequence no_parts) place)) rest
  sequence : {nodes all : List Node} {place : ℕ} {members : Extensible Component} {ts a rest : Left}
      → The (tokens.Sign signs.LeftBrace) ts a → Means (Members groups.Sequence) nodes a members all rest
      → Means (Behind words.Sequence place) nodes ts (next_id all) (with_type all (node (types.Sequence members) place)) rest
  choice : {nodes all : List Node} {place : ℕ} {members : Extensible Component} {ts a rest : Left}
      → The (tokens.Sign signs.LeftBrace) ts a → Means (Members groups.Choice) nodes a members all rest
      → Means (Behind words.Choice place) nodes ts (next_id all) (with_type all (node (types.Choice members) place)) rest
  member : {group : Group} {nodes all : List Node} {name : List ℕ} {definition : TypeId} {optional : Bool} {ts a b rest : Left}
      → The (tokens.Lower name) ts a → Means AType nodes a definition all b → MayBeOptional group b optional rest
      → Means (AMember group) nodes ts (component name definition optional) all rest
  mark : {group : Group} {nodes all : List Node} {added : List Component} {ts a rest : Left}
      → The (tokens.Sign signs.Ellipsis) ts a → Means (Added group) nodes a added all rest
      → Means (Members group) nodes ts (record { root = []; additions = Some added }) all rest
  last : {group : Group} {nodes all : List Node} {found : Component} {ts a rest : Left}
      → Means (AMember group) nodes ts found all a → The (tokens.Sign signs.RightBrace) a rest
      → Means (Members group) nodes ts (record { root = found ∷ []; additions = None }) all rest
  more : {group : Group} {nodes inside all : List Node} {found : Component} {members : Extensible Component} {ts a b rest : Left}
      → Means (AMember group) nodes ts found inside a → The (tokens.Sign signs.Comma) a b → Means (Members group) inside b members all rest
      → Means (Members group) nodes ts (record { root = found ∷ members.root; additions = members.additions }) all rest
  no_more : {group : Group} {nodes : List Node} {ts rest : Left} → The (tokens.Sign signs.RightBrace) ts rest → Means (Added group) nodes ts [] nodes rest
  one_more : {group : Group} {nodes inside all : List Node} {found : Component} {members : List Component} {ts a b rest : Left}
      → The (tokens.Sign signs.Comma) ts a → Means (AMember group) nodes a found inside b → Means (Added group) inside b members all rest
      → Means (Added group) nodes ts (found ∷ members) all rest
