-- What modules and their assignments mean (X.680, clauses 13 and 16).
use Rattle.std.specs.Prelude.{ℕ, List, [], ◌∷◌, length}
use Rattle.asn1_tokens.specs.declared.token.Word.TheVariants as words
use Rattle.asn1_tokens.specs.declared.token.Sign.TheVariants as signs
use Rattle.asn1_tokens.specs.declared.token.Token.TheVariants as tokens
use Rattle.asn1_tokens.specs.Stream.{first_place}
use Rattle.asn1_syntax.specs.declared.types.definition.TypeId.{TypeId}
use Rattle.asn1_syntax.specs.declared.types.definition.Node.{Node}
use Rattle.asn1_syntax.specs.types.Reading.{Left}
use Rattle.asn1_syntax.specs.declared.assignments.assignment.IeRow.{IeRow}
use Rattle.asn1_syntax.specs.declared.assignments.assignment.ProcedureRow.{ProcedureRow}
use Rattle.asn1_syntax.specs.declared.assignments.assignment.Body.{Body}
use Rattle.asn1_syntax.specs.declared.assignments.assignment.Body.TheVariants as bodies
use Rattle.asn1_syntax.specs.declared.assignments.assignment.Assignment.{Assignment}
use Rattle.asn1_syntax.specs.declared.assignments.assignment.Syntax.{Syntax}
use Rattle.asn1_defs.specs.ItemMeanings.{The, start_of}
use Rattle.asn1_defs.specs.TypeMeanings.{AType, Means}
use Rattle.asn1_defs.specs.RowMeanings.{AnIe, AProcedure, Rows}

-- what a name stands for
pub data MeansBody : List Node → Left → Body → List Node → Left → Type 0 where
  a_type : {nodes all : List Node} {definition : TypeId} {ts a rest : Left} → The (tokens.Sign signs.Assignment) ts a → Means AType nodes a definition all rest → MeansBody nodes ts (bodies.Type definition) all rest
  ie_set : {nodes all : List Node} {rows : List IeRow} {ts a b c rest : Left} → The (tokens.Word words.ProtocolIes) ts a → The (tokens.Sign signs.Assignment) a b → The (tokens.Sign signs.LeftBrace) b c → Rows AnIe nodes c rows all rest → MeansBody nodes ts (bodies.IeSet rows) all rest
  procedure_set : {nodes all : List Node} {rows : List ProcedureRow} {ts a b c rest : Left} → The (tokens.Word words.ElementaryProcedure) ts a → The (tokens.Sign signs.Assignment) a b → The (tokens.Sign signs.LeftBrace) b c → Rows AProcedure nodes c rows all rest → MeansBody nodes ts (bodies.ProcedureSet rows) all rest

-- the assignments up to the word END, which ends there
pub data MeansAssignments : List Node → Left → List Assignment → List Node → ℕ → Type 0 where
  none : {nodes : List Node} {ts rest : Left} → The (tokens.Word words.End) ts rest → MeansAssignments nodes ts [] nodes (first_place ts).end
  one : {nodes inside all : List Node} {name : List ℕ} {body : Body} {assignments : List Assignment} {ts a b : Left} {end : ℕ}
      → The (tokens.Upper name) ts a → MeansBody nodes a body inside b → MeansAssignments inside b assignments all end
      → MeansAssignments nodes ts (record { name = name; place = start_of ts; body = body; end = length inside } ∷ assignments) all end

-- the items begin with this module
pub data MeansModule : Left → Syntax → Type 0 where
  a_module : {name : List ℕ} {assignments : List Assignment} {nodes : List Node} {end : ℕ} {ts a b c d e f : Left}
      → The (tokens.Upper name) ts a → The (tokens.Word words.Definitions) a b → The (tokens.Word words.Automatic) b c → The (tokens.Word words.Tags) c d → The (tokens.Sign signs.Assignment) d e → The (tokens.Word words.Begin) e f
      → MeansAssignments [] f assignments nodes end
      → MeansModule ts (record { name = name; assignments = assignments; nodes = nodes; end = end })
