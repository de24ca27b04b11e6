-- What the items of a module hold: the assignments by their names, and in each the names by which it refers to others. Both are told of
-- the items alone, from left to right; nothing here knows of types, of their numbers, or of a reader.
use Rattle.std.specs.Prelude.{ℕ, List, [], ◌∷◌, ◌++◌, Option, Some, None, if◌then◌else◌, ◌≡◌, slice_get, position}
use Rattle.asn1_tokens.specs.declared.token.Word.TheVariants as words
use Rattle.asn1_tokens.specs.declared.token.Sign.TheVariants as signs
use Rattle.asn1_tokens.specs.declared.token.Token.{Token}
use Rattle.asn1_tokens.specs.declared.token.Token.TheVariants as tokens
use Rattle.asn1_tokens.specs.Words.{is_text}
use Rattle.asn1_tokens.specs.Stream.{Placed, first_token}
use Rattle.asn1_defs.specs.declared.names.Kind.{Kind}
use Rattle.asn1_defs.specs.declared.names.Kind.TheVariants as kinds
use Rattle.asn1_defs.specs.Names.{is_such}

-- a name by which items refer: what it is to stand for, and where it stands
pub record Mention : Type 0 where
  pub kind : Kind
  pub name : List ℕ
  pub place : ℕ

-- an assignment: what its name stands for, its name and where it stands, and the names that its items hold
pub record Given : Type 0 where
  pub kind : Kind
  pub name : List ℕ
  pub place : ℕ
  pub holds : List Mention

-- What a name stands for behind which this item stands, if it is the name of an assignment.
abbrev pub given_by : Token → Option Kind
given_by (tokens.Sign signs.Assignment) = Some kinds.Type
given_by (tokens.Word words.ProtocolIes) = Some kinds.IeSet
given_by (tokens.Word words.ElementaryProcedure) = Some kinds.ProcedureSet
given_by _ = None

abbrev pub given_kind : List Placed → Option Kind
given_kind ts = given_by (first_token ts)

-- What a name behind this item is to stand for: that of a set behind the words of a container and of a PDU, and the signs after them.
abbrev pub kind_behind : Kind → Token → Kind
kind_behind kind (tokens.Word words.ProtocolIeContainer) = kinds.IeSet
kind_behind kind (tokens.Word words.ProtocolPdu) = kinds.ProcedureSet
kind_behind kind (tokens.Word word) = kinds.Type
kind_behind kind (tokens.Upper name) = kinds.Type
kind_behind kind _ = kind

-- an item, before what is held by those that follow it up to the next assignment or the word END
abbrev pub held_from : Token → Kind → ℕ → Option Kind → List Mention → List Mention
held_from (tokens.Upper name) kind place None later = record { kind = kind; name = name; place = place } ∷ later
held_from (tokens.Upper name) kind place (Some given) later = []
held_from (tokens.Word words.End) kind place following later = []
held_from _ kind place following later = later

-- the names that items hold, up to the next assignment or the word END
unfoldable pub held : Kind → List Placed → List Mention
held kind [] = []
held kind (p ∷ ts) = held_from p.token kind p.place.start (given_kind ts) (held (kind_behind kind p.token) ts)

-- an item, before the assignments that follow it
abbrev pub given_from : Token → ℕ → Option Kind → List Mention → List Given → List Given
given_from (tokens.Upper name) place (Some kind) holds later = record { kind = kind; name = name; place = place; holds = holds } ∷ later
given_from (tokens.Upper name) place None holds later = later
given_from (tokens.Word words.End) place following holds later = []
given_from _ place following holds later = later

-- the assignments of a module's items, up to the word END
unfoldable pub givens : List Placed → List Given
givens [] = []
givens (p ∷ ts) = given_from p.token p.place.start (given_kind ts) (held kinds.Type ts) (givens ts)

-- ---- what names refer to

-- all names that these assignments hold, in the text's order
unfoldable pub all_held : List Given → List Mention
all_held [] = []
all_held (g ∷ gs) = g.holds ++ all_held gs

-- what the first of these assignments that has a name makes of it
unfoldable pub given_of : List ℕ → List Given → Option Kind
given_of name [] = None
given_of name (g ∷ gs) = if is_text g.name name then Some g.kind else given_of name gs

-- the place of the first of these names that no assignment gives as what it is to stand for
unfoldable pub first_not_given : List Given → List Mention → Option ℕ
first_not_given gs [] = None
first_not_given gs (m ∷ ms) = if is_such m.kind (given_of m.name gs) then first_not_given gs ms else Some m.place

-- the place of the first name in the text of a module that is nowhere defined, or is of another kind
abbrev pub unknown_in : List Placed → Option ℕ
unknown_in items = first_not_given (givens items) (all_held (givens items))

-- An assignment, by its number, holds the name of another one: the first that has the name.
pub record HoldsName (gs : List Given) (k j : ℕ) : Type 0 where
  pub given : Given
  pub there : slice_get gs k ≡ Some given
  pub mention : Mention
  pub number : ℕ
  pub held : slice_get given.holds number ≡ Some mention
  pub target : position (λ (g : Given). is_text g.name mention.name) gs ≡ Some j

-- by one name after another
pub data Refers (gs : List Given) (k : ℕ) : ℕ → Type 0 where
  directly : {j : ℕ} → HoldsName gs k j → Refers gs k j
  further : {j l : ℕ} → Refers gs k j → HoldsName gs j l → Refers gs k l
