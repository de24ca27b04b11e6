-- What the rows of information object sets mean.
use Rattle.std.specs.Prelude.{◌≡◌, ℕ, List, [], ◌∷◌, false, Option, Some, None, pos}
use Rattle.asn1_tokens.specs.declared.token.Word.{Word}
use Rattle.asn1_tokens.specs.declared.token.Word.TheVariants as words
use Rattle.asn1_tokens.specs.declared.token.Sign.TheVariants as signs
use Rattle.asn1_tokens.specs.declared.token.Token.TheVariants as tokens
use Rattle.asn1_syntax.specs.declared.types.definition.TypeId.{TypeId}
use Rattle.asn1_syntax.specs.declared.types.definition.Node.{Node}
use Rattle.asn1_syntax.specs.types.Reading.{Left, begins_with}
use Rattle.asn1_syntax.specs.declared.assignments.assignment.Criticality.{Criticality}
use Rattle.asn1_syntax.specs.declared.assignments.assignment.Presence.{Presence}
use Rattle.asn1_syntax.specs.declared.assignments.assignment.IeRow.{IeRow}
use Rattle.asn1_syntax.specs.declared.assignments.assignment.ProcedureRow.{ProcedureRow}
use Rattle.asn1_syntax.specs.assignments.Rows.{criticality_of, presence_of}
use Rattle.asn1_defs.specs.ItemMeanings.{The}
use Rattle.asn1_defs.specs.TypeMeanings.{AType, Means}

pub data ACriticality : Left → Criticality → Left → Type 0 where
  criticality : {name : List ℕ} {found : Criticality} {ts rest : Left} → The (tokens.Lower name) ts rest → criticality_of name ≡ Some found → ACriticality ts found rest

pub data APresence : Left → Presence → Left → Type 0 where
  presence : {name : List ℕ} {found : Presence} {ts rest : Left} → The (tokens.Lower name) ts rest → presence_of name ≡ Some found → APresence ts found rest

-- `{ID id CRITICALITY criticality TYPE type PRESENCE presence}`
pub data AnIe : List Node → Left → IeRow → List Node → Left → Type 0 where
  ie : {nodes all : List Node} {id : ℕ} {criticality : Criticality} {definition : TypeId} {presence : Presence} {ts a b c d e f g h i rest : Left}
      → The (tokens.Sign signs.LeftBrace) ts a → The (tokens.Word words.Id) a b → The (tokens.Number (pos id)) b c
      → The (tokens.Word words.Criticality) c d → ACriticality d criticality e
      → The (tokens.Word words.Type) e f → Means AType nodes f definition all g
      → The (tokens.Word words.Presence) g h → APresence h presence i → The (tokens.Sign signs.RightBrace) i rest
      → AnIe nodes ts (record { id = id; criticality = criticality; definition = definition; presence = presence }) all rest

-- an outcome of a procedure, where its word stands
pub data Outcome (word : Word) : List Node → Left → Option TypeId → List Node → Left → Type 0 where
  outcome : {nodes all : List Node} {definition : TypeId} {ts a b rest : Left} → The (tokens.Word word) ts a → The (tokens.Word words.Outcome) a b → Means AType nodes b definition all rest → Outcome word nodes ts (Some definition) all rest
  no_outcome : {nodes : List Node} {ts : Left} → begins_with word ts ≡ false → Outcome word nodes ts None nodes ts

-- `{INITIATING MESSAGE type SUCCESSFUL OUTCOME type UNSUCCESSFUL OUTCOME type PROCEDURE CODE code CRITICALITY criticality}`
pub data AProcedure : List Node → Left → ProcedureRow → List Node → Left → Type 0 where
  procedure : {nodes inside more all : List Node} {initiating : TypeId} {successful unsuccessful : Option TypeId} {code : ℕ} {criticality : Criticality} {ts a b c d e f g h i j k rest : Left}
      → The (tokens.Sign signs.LeftBrace) ts a → The (tokens.Word words.Initiating) a b → The (tokens.Word words.Message) b c → Means AType nodes c initiating inside d
      → Outcome words.Successful inside d successful more e → Outcome words.Unsuccessful more e unsuccessful all f
      → The (tokens.Word words.Procedure) f g → The (tokens.Word words.Code) g h → The (tokens.Number (pos code)) h i
      → The (tokens.Word words.Criticality) i j → ACriticality j criticality k → The (tokens.Sign signs.RightBrace) k rest
      → AProcedure nodes ts (record { initiating = initiating; successful = successful; unsuccessful = unsuccessful; code = code; criticality = criticality }) all rest

-- the rows of a set, up to its brace
pub data Rows {R : Type 0} (Row : List Node → Left → R → List Node → Left → Type 0) : List Node → Left → List R → List Node → Left → Type 0 where
  last : {nodes all : List Node} {row : R} {ts a b c rest : Left} → Row nodes ts row all a → The (tokens.Sign signs.Comma) a b → The (tokens.Sign signs.Ellipsis) b c → The (tokens.Sign signs.RightBrace) c rest → Rows Row nodes ts (row ∷ []) all rest
  more : {nodes inside all : List Node} {row : R} {rows : List R} {ts a b rest : Left} → Row nodes ts row inside a → The (tokens.Sign signs.Bar) a b → Rows Row inside b rows all rest → Rows Row nodes ts (row ∷ rows) all rest
