-- The items that a module is written with: the way from a module to its text. Each piece is told as what is written before the
-- items that follow it.
use Rattle.std.specs.Prelude.{◌≡◌, ℕ, ◌==◌, List, [], ◌∷◌, ◌++◌, map, fold, get_or, Bool, true, false, Option, Some, None, if◌then◌else◌, codes, pos}
use Rattle.asn1_tokens.specs.declared.token.Word.{Word}
use Rattle.asn1_tokens.specs.declared.token.Word.TheVariants as words
use Rattle.asn1_tokens.specs.declared.token.Sign.{Sign}
use Rattle.asn1_tokens.specs.declared.token.Sign.TheVariants as signs
use Rattle.asn1_tokens.specs.declared.token.Token.{Token}
use Rattle.asn1_tokens.specs.declared.token.Token.TheVariants as tokens
use Rattle.asn1_tokens.specs.Stream.{Placed, items_of}
use Rattle.asn1_syntax.specs.declared.types.definition.Size.{Size}
use Rattle.asn1_syntax.specs.declared.types.definition.TypeId.{TypeId}
use Rattle.asn1_syntax.specs.declared.types.definition.Component.{Component}
use Rattle.asn1_syntax.specs.declared.types.definition.Extensible.{Extensible}
use Rattle.asn1_syntax.specs.declared.types.definition.Node.{Node}
use Rattle.asn1_syntax.specs.declared.types.definition.Definition.{Definition}
use Rattle.asn1_syntax.specs.declared.types.members.Group.TheVariants as groups
use Rattle.asn1_syntax.specs.types.Shapes.{Content, Nothing, Interval, NameList, StringSize, TextSize, Parts, Simple, Composed, Elements, Named, SetOf, parts_of}
use Rattle.asn1_syntax.specs.declared.assignments.assignment.Criticality.{Criticality}
use Rattle.asn1_syntax.specs.declared.assignments.assignment.Criticality.TheVariants as criticalities
use Rattle.asn1_syntax.specs.declared.assignments.assignment.Presence.{Presence}
use Rattle.asn1_syntax.specs.declared.assignments.assignment.Presence.TheVariants as presences
use Rattle.asn1_syntax.specs.declared.assignments.assignment.IeRow.{IeRow}
use Rattle.asn1_syntax.specs.declared.assignments.assignment.ProcedureRow.{ProcedureRow}
use Rattle.asn1_syntax.specs.declared.assignments.assignment.Body.{Body}
use Rattle.asn1_syntax.specs.declared.assignments.assignment.Body.TheVariants as bodies
use Rattle.asn1_syntax.specs.declared.assignments.assignment.Assignment.{Assignment}
use Rattle.asn1_syntax.specs.declared.assignments.assignment.Syntax.{Syntax}
use Rattle.asn1_defs.specs.Spelling.{tokens_of}

-- what is written before the items that follow
abbrev pub Written : Type 0
Written = List Token → List Token

abbrev pub sign : Sign → Written
sign s tail = tokens.Sign s ∷ tail

abbrev pub word : Word → Written
word w tail = tokens.Word w ∷ tail

abbrev pub natural : ℕ → Written
natural n tail = tokens.Number (pos n) ∷ tail

abbrev pub lower : List ℕ → Written
lower name tail = tokens.Lower name ∷ tail

abbrev pub upper : List ℕ → Written
upper name tail = tokens.Upper name ∷ tail

-- `, ...` where a type is extensible
abbrev pub mark_text : Bool → Written
mark_text false tail = tail
mark_text true tail = sign signs.Comma (sign signs.Ellipsis tail)

-- these with a sign between them
unfoldable pub separated : Sign → List Written → Written
separated s [] tail = tail
separated s (e ∷ []) tail = e tail
separated s (e ∷ f ∷ es) tail = e (sign s (separated s (f ∷ es) tail))

-- the entries of a list: those of its root, and `...` before its additions
abbrev pub addition_entries : {T : Type 0} → (T → Written) → Option (List T) → List Written
addition_entries text None = []
addition_entries text (Some added) = sign signs.Ellipsis ∷ map text added

abbrev pub entries_of : {T : Type 0} → (T → Written) → Extensible T → List Written
entries_of text parts = map text parts.root ++ addition_entries text parts.additions

abbrev pub braced : List Written → Written
braced es tail = sign signs.LeftBrace (separated signs.Comma es (sign signs.RightBrace tail))

-- `(SIZE (n))` where both bounds are one, else `(SIZE (low..high))`
abbrev pub high_text : ℕ → ℕ → Written
high_text low high tail = if low == high then tail else sign signs.Range (natural high tail)

abbrev pub size_text : Size → Written
size_text size tail =
    sign signs.LeftParenthesis (word words.Size (sign signs.LeftParenthesis (natural size.low (high_text size.low size.high (mark_text size.extensible (sign signs.RightParenthesis (sign signs.RightParenthesis tail)))))))

abbrev pub optional_size_text : Option Size → Written
optional_size_text None tail = tail
optional_size_text (Some size) tail = size_text size tail

-- the text of a type by its number, where these are the texts of all types
abbrev pub type_text : List Written → TypeId → Written
type_text texts id = get_or texts id.number (λ tail. tail)

abbrev pub optional_text : Bool → Written
optional_text false tail = tail
optional_text true tail = word words.Optional tail

abbrev pub component_text : List Written → Component → Written
component_text texts component tail = lower component.name (type_text texts component.definition (optional_text component.optional tail))

-- `{{Set}}`
abbrev pub set_name_text : List ℕ → Written
set_name_text set tail = sign signs.LeftBrace (sign signs.LeftBrace (upper set (sign signs.RightBrace (sign signs.RightBrace tail))))

-- what follows the word of a type without another one inside
abbrev pub content_text : Content → Written
content_text Nothing tail = tail
content_text (Interval low high extensible) tail =
    sign signs.LeftParenthesis (tokens.Number low ∷ sign signs.Range (tokens.Number high ∷ mark_text extensible (sign signs.RightParenthesis tail)))
content_text (NameList names) tail = braced (entries_of lower names) tail
content_text (StringSize size) tail = word words.String (optional_size_text size tail)
content_text (TextSize size) tail = optional_size_text size tail

-- the parts of a type, where these are the texts of the types inside it
abbrev pub parts_text : List Written → Parts → Written
parts_text texts (Simple w content) tail = word w (content_text content tail)
parts_text texts (Composed groups.Sequence members) tail = word words.Sequence (braced (entries_of (component_text texts) members) tail)
parts_text texts (Composed groups.Choice members) tail = word words.Choice (braced (entries_of (component_text texts) members) tail)
parts_text texts (Elements size element) tail = word words.Sequence (optional_size_text size (word words.Of (type_text texts element tail)))
parts_text texts (Named name) tail = upper name tail
parts_text texts (SetOf w set) tail = word w (set_name_text set tail)

-- a type
unfoldable pub definition_text : List Written → Definition → Written
definition_text texts definition tail = parts_text texts (parts_of definition) tail

-- The texts of all types: a type stands behind those inside it, so each is written with the texts of those before it.
abbrev pub with_text : List Written → Node → List Written
with_text texts node = texts ++ definition_text texts node.definition ∷ []

unfoldable pub texts_of : List Node → List Written
texts_of nodes = fold with_text [] nodes

-- ---- object sets

abbrev pub criticality_name : Criticality → List ℕ
criticality_name criticalities.Reject = codes "reject"
criticality_name criticalities.Ignore = codes "ignore"
criticality_name criticalities.Notify = codes "notify"

abbrev pub presence_name : Presence → List ℕ
presence_name presences.Mandatory = codes "mandatory"
presence_name presences.Optional = codes "optional"

abbrev pub ie_row_text : List Written → IeRow → Written
ie_row_text texts row tail =
    sign signs.LeftBrace (word words.Id (natural row.id (word words.Criticality (lower (criticality_name row.criticality) (word words.Type (type_text texts row.definition (word words.Presence (lower (presence_name row.presence) (sign signs.RightBrace tail)))))))))

abbrev pub outcome_text : List Written → Word → Option TypeId → Written
outcome_text texts w None tail = tail
outcome_text texts w (Some id) tail = word w (word words.Outcome (type_text texts id tail))

abbrev pub procedure_row_text : List Written → ProcedureRow → Written
procedure_row_text texts row tail =
    sign signs.LeftBrace (word words.Initiating (word words.Message (type_text texts row.initiating (outcome_text texts words.Successful row.successful (outcome_text texts words.Unsuccessful row.unsuccessful (word words.Procedure (word words.Code (natural row.code (word words.Criticality (lower (criticality_name row.criticality) (sign signs.RightBrace tail)))))))))))

-- `::= {rows, ...}`
abbrev pub rows_text : List Written → Written
rows_text rows tail =
    sign signs.Assignment (sign signs.LeftBrace (separated signs.Bar rows (sign signs.Comma (sign signs.Ellipsis (sign signs.RightBrace tail)))))

-- ---- assignments

abbrev pub body_text : List Written → Body → Written
body_text texts (bodies.Type id) tail = sign signs.Assignment (type_text texts id tail)
body_text texts (bodies.IeSet rows) tail = word words.ProtocolIes (rows_text (map (ie_row_text texts) rows) tail)
body_text texts (bodies.ProcedureSet rows) tail = word words.ElementaryProcedure (rows_text (map (procedure_row_text texts) rows) tail)

abbrev pub assignment_text : List Written → Assignment → Written
assignment_text texts assignment tail = upper assignment.name (body_text texts assignment.body tail)

unfoldable pub assignments_text : List Written → List Assignment → Written
assignments_text texts [] tail = tail
assignments_text texts (a ∷ assignments) tail = assignment_text texts a (assignments_text texts assignments tail)

abbrev pub header_text : List ℕ → Written
header_text name tail = upper name (word words.Definitions (word words.Automatic (word words.Tags (sign signs.Assignment (word words.Begin tail)))))

-- the items that a module is written with
abbrev pub module_text : Syntax → List Token
module_text m = header_text m.name (assignments_text (texts_of m.nodes) m.assignments (word words.End []))

-- the items of the text up to the module's end are those that it is written with
pub record IsWrittenSo (text : List ℕ) (m : Syntax) : Type 0 where
  pub front : List Placed
  pub last : Placed
  pub rest : List Placed
  pub items : items_of text ≡ front ++ last ∷ rest
  pub written : tokens_of front ++ last.token ∷ [] ≡ module_text m
  pub ends : m.end ≡ last.place.end
