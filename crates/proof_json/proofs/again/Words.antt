-- Names of lower form in a text begin with a letter. So do the names of components and alternatives of the module that it means.
use Rattle.std.proofs.Common.{◌≡◌, ℕ, Bool, true, false, cond, ◌||◌, List, [], ◌∷◌, ◌++◌, Option, Some, None, subst}
use Rattle.asn1_defs.specs.Items.{IsName, IsItem, AreItems}
use Rattle.asn1_defs.specs.Items as lexical
use Rattle.asn1_tokens.specs.declared.token.Word.{Word}
use Rattle.asn1_tokens.specs.declared.token.Token.{Token}
use Rattle.asn1_tokens.specs.declared.token.Token.TheVariants as tokens
use Rattle.asn1_tokens.specs.Scan.{is_upper, is_lower, begins, word_or, name_token}
use Rattle.asn1_tokens.specs.Words.{is_left_out, word_of}
use Rattle.asn1_tokens.specs.Stream.{Placed}
use Rattle.asn1_syntax.specs.declared.types.definition.Component.{Component}
use Rattle.asn1_syntax.specs.declared.types.definition.Extensible.{Extensible}
use Rattle.asn1_syntax.specs.declared.types.definition.Definition.{Definition}
use Rattle.asn1_syntax.specs.declared.types.definition.Definition.TheVariants as types
use Rattle.asn1_syntax.specs.declared.types.definition.Node.{Node}
use Rattle.asn1_syntax.specs.declared.types.definition.Size.{Size}
use Rattle.asn1_syntax.specs.declared.types.members.Group.{Group}
use Rattle.asn1_syntax.specs.types.Reading.{Left}
use Rattle.asn1_syntax.specs.types.Shapes.{Shape, Content, Simple, parts_of}
use Rattle.asn1_syntax.specs.types.Members.{additions_of}
use Rattle.asn1_module.proofs.SimpleTypes.{followed_parts}
use Rattle.asn1_syntax.specs.declared.assignments.assignment.IeRow.{IeRow}
use Rattle.asn1_syntax.specs.declared.assignments.assignment.ProcedureRow.{ProcedureRow}
use Rattle.asn1_syntax.specs.declared.assignments.assignment.Body.{Body}
use Rattle.asn1_syntax.specs.declared.assignments.assignment.Assignment.{Assignment}
use Rattle.asn1_syntax.specs.declared.assignments.assignment.Syntax.{Syntax}
use Rattle.asn1_syntax.specs.declared.assignments.assignment.Criticality.{Criticality}
use Rattle.asn1_syntax.specs.declared.assignments.assignment.Presence.{Presence}
use Rattle.asn1_defs.specs.ItemMeanings as items
use Rattle.asn1_defs.specs.ItemMeanings.{The, Extends, HighBound, OptionalSize, SetName, AddedNames, Names}
use Rattle.asn1_defs.specs.TypeMeanings as means
use Rattle.asn1_defs.specs.TypeMeanings.{Follows, Plain, MayBeOptional, Piece, AType, Behind, AMember, Members, Added, Value, Means}
use Rattle.asn1_defs.specs.RowMeanings as rows
use Rattle.asn1_defs.specs.RowMeanings.{ACriticality, APresence, AnIe, Outcome, AProcedure, Rows}
use Rattle.asn1_defs.specs.ModuleMeanings as modules
use Rattle.asn1_defs.specs.ModuleMeanings.{MeansBody, MeansAssignments, MeansModule}
use Rattle.proof_asn1_modules.specs.asn1_proof_module.Proper.{Each}
use Rattle.proof_asn1_modules.proofs.asn1_proof_module.Parts.{each_put}

-- ---- the items of a text

abbrev pub IsWord : List ℕ → Type 0
IsWord [] = ⊥
IsWord (c ∷ cs) = is_upper c || is_lower c ≡ true

abbrev HasWord : Token → Type 0
HasWord (tokens.Lower name) = IsWord name
HasWord (tokens.Upper name) = Unit {0}
HasWord (tokens.Word word) = Unit {0}
HasWord (tokens.Number value) = Unit {0}
HasWord (tokens.Sign sign) = Unit {0}
HasWord tokens.OutOfProfile = Unit {0}
HasWord tokens.Nothing = Unit {0}
HasWord tokens.EndOfText = Unit {0}

abbrev pub AreWords : List Placed → Type 0
AreWords [] = Unit {0}
AreWords (p ∷ ps) = HasWord p.token × AreWords ps

token_by : (out : Bool) (word : Option Word) (upper : Bool) (text : List ℕ) → IsWord text
    → HasWord (cond out tokens.OutOfProfile (word_or word (cond upper (tokens.Upper text) (tokens.Lower text))))
token_by true word upper text h = tt
token_by false (Some word) upper text h = tt
token_by false None true text h = tt
token_by false None false text h = h

name_word : (text : List ℕ) → IsName text → HasWord (name_token text)
unfolding name_token
name_word [] h = absurd h
name_word (c ∷ cs) h = token_by (is_left_out (c ∷ cs)) (word_of (c ∷ cs)) (begins is_upper (c ∷ cs)) (c ∷ cs) h.0

item_word : {text rest : List ℕ} {token : Token} → IsItem text token rest → HasWord token
item_word (lexical.name found) = name_word found.front found.is
item_word (lexical.number found) = tt
item_word (lexical.negative found) = tt
item_word lexical.assignment = tt
item_word lexical.ellipsis = tt
item_word (lexical.range without) = tt
item_word lexical.left_brace = tt
item_word lexical.right_brace = tt
item_word lexical.left_parenthesis = tt
item_word lexical.right_parenthesis = tt
item_word lexical.comma = tt
item_word lexical.bar = tt
item_word lexical.left_out = tt
item_word (lexical.nothing without) = tt
item_word lexical.at_end = tt

pub items_words : {total : ℕ} {text : List ℕ} {ps : List Placed} → AreItems total text ps → AreWords ps
items_words (lexical.last gap item is) = (item_word item, tt)
items_words (lexical.more gap item is others) = (item_word item, items_words others)

-- ---- single items and short rows of them

took : {token : Token} {ts rest : Left} → The token ts rest → AreWords ts → HasWord token × AreWords rest
took (items.is e) h = (subst HasWord e h.0, h.1)

past : {token : Token} {ts rest : Left} → The token ts rest → AreWords ts → AreWords rest
past one h = (took one h).1

extends_past : {extensible : Bool} {ts rest : Left} → Extends ts extensible rest → AreWords ts → AreWords rest
extends_past (items.extends a b) h = past b (past a h)
extends_past (items.doesn't without) h = h

high_past : {low high : ℕ} {ts rest : Left} → HighBound low ts high rest → AreWords ts → AreWords rest
high_past (items.given a b) h = past b (past a h)
high_past (items.same without) h = h

optional_size_past : {size : Option Size} {ts rest : Left} → OptionalSize ts size rest → AreWords ts → AreWords rest
optional_size_past (items.sized (items.size a b c d high mark e f)) h =
    past f (past e (extends_past mark (high_past high (past d (past c (past b (past a h)))))))
optional_size_past (items.unsized without) h = h

set_name_past : {set : List ℕ} {at : ℕ} {ts rest : Left} → SetName ts set at rest → AreWords ts → AreWords rest
set_name_past (items.set_name a b c d e) h = past e (past d (past c (past b (past a h))))

added_names_past : {names : List (List ℕ)} {ts rest : Left} → AddedNames ts names rest → AreWords ts → AreWords rest
added_names_past (items.none a) h = past a h
added_names_past (items.one a b others) h = added_names_past others (past b (past a h))

names_past : {names : Extensible (List ℕ)} {ts rest : Left} → Names ts names rest → AreWords ts → AreWords rest
names_past (items.mark a added) h = added_names_past added (past a h)
names_past (items.last a b) h = past b (past a h)
names_past (items.more a b others) h = names_past others (past b (past a h))

-- ---- types

abbrev IsMember : Component → Type 0
IsMember c = IsWord c.name

abbrev pub AreMembers : Extensible Component → Type 0
AreMembers parts = Each IsMember parts.root × Each IsMember (additions_of parts.additions)

abbrev pub HasWords : Definition → Type 0
HasWords (types.Sequence members) = AreMembers members
HasWords (types.Choice members) = AreMembers members
HasWords _ = Unit {0}

abbrev NodeWords : Node → Type 0
NodeWords node = HasWords node.definition

abbrev pub AllWords : List Node → Type 0
AllWords nodes = Each NodeWords nodes

put : (nodes : List Node) (new : Node) → AllWords nodes → HasWords new.definition → AllWords (nodes ++ new ∷ [])
put nodes new n h = each_put NodeWords nodes new n h

follows_past : {shape : Shape} {definition : Definition} {ts rest : Left} → Follows shape ts definition rest → AreWords ts → AreWords rest
follows_past means.alone h = h
follows_past (means.bounds a b c d mark e) h = past e (extends_past mark (past d (past c (past b (past a h)))))
follows_past (means.names a names) h = names_past names (past a h)
follows_past (means.string a size) h = optional_size_past size (past a h)
follows_past (means.text_size size) h = optional_size_past size h

simple_words : (definition : Definition) (w : Word) (content : Content) → parts_of definition ≡ Simple w content → HasWords definition
simple_words (types.Sequence members) w content h = cc
simple_words (types.Choice members) w content h = cc
simple_words _ w content h = tt

plain_words : {word : Word} {place : ℕ} {new : Node} {ts rest : Left} → Plain word place ts new rest → AreWords ts
    → HasWords new.definition × AreWords rest
plain_words (means.simple {word} {definition} is follows) h =
    let parts = followed_parts word is follows in
    (simple_words definition word parts.0 parts.1, follows_past follows h)
plain_words (means.ie_container set) h = (tt, set_name_past set h)
plain_words (means.pdu set) h = (tt, set_name_past set h)

optional_past : {group : Group} {optional : Bool} {ts rest : Left} → MayBeOptional group ts optional rest → AreWords ts → AreWords rest
optional_past (means.optional a) h = past a h
optional_past (means.required without) h = h
optional_past means.alternative h = h

abbrev ValueWords : (piece : Piece) → Value piece → Type 0
ValueWords AType id = Unit {0}
ValueWords (Behind word place) id = Unit {0}
ValueWords (AMember group) c = IsMember c
ValueWords (Members group) parts = AreMembers parts
ValueWords (Added group) cs = Each IsMember cs

means_words : {piece : Piece} {nodes all : List Node} {v : Value piece} {ts rest : Left} → Means piece nodes ts v all rest → AllWords nodes
    → AreWords ts → ValueWords piece v × AllWords all × AreWords rest
means_words (means.reference {nodes} a) n h = (tt, put nodes _ n tt, past a h)
means_words (means.worded a inner) n h = let m = means_words inner n (past a h) in (tt, m.1, m.2)
means_words (means.plain {nodes} found) n h = let p = plain_words found h in (tt, put nodes _ n p.0, p.1)
means_words (means.sequence_of {all} size a inner) n h =
    let m = means_words inner n (past a (optional_size_past size h)) in
    (tt, put all _ m.1 tt, m.2)
means_words (means.empty_sequence {nodes} a b) n h = (tt, put nodes _ n (tt, tt), past b (past a h))
means_words (means.sequence {all} a inner) n h = let m = means_words inner n (past a h) in (tt, put all _ m.1 m.0, m.2)
means_words (means.choice {all} a inner) n h = let m = means_words inner n (past a h) in (tt, put all _ m.1 m.0, m.2)
means_words (means.member a inner marked) n h =
    let one = took a h in
    let m = means_words inner n one.1 in
    (one.0, m.1, optional_past marked m.2)
means_words (means.mark a inner) n h = let m = means_words inner n (past a h) in ((tt, m.0), m.1, m.2)
means_words (means.last inner a) n h = let m = means_words inner n h in (((m.0, tt), tt), m.1, past a m.2)
means_words (means.more inner a others) n h =
    let m = means_words inner n h in
    let o = means_words others m.1 (past a m.2) in
    (((m.0, o.0.0), o.0.1), o.1, o.2)
means_words (means.no_more a) n h = (tt, n, past a h)
means_words (means.one_more a inner others) n h =
    let m = means_words inner n (past a h) in
    let o = means_words others m.1 m.2 in
    ((m.0, o.0), o.1, o.2)

-- ---- sets

abbrev After : List Node → Left → Type 0
After all rest = AllWords all × AreWords rest

criticality_past : {found : Criticality} {ts rest : Left} → ACriticality ts found rest → AreWords ts → AreWords rest
criticality_past (rows.criticality a is) h = past a h

presence_past : {found : Presence} {ts rest : Left} → APresence ts found rest → AreWords ts → AreWords rest
presence_past (rows.presence a is) h = past a h

ie_words : (nodes all : List Node) (row : IeRow) (ts rest : Left) → AnIe nodes ts row all rest → AllWords nodes → AreWords ts
    → After all rest
ie_words nodes all row ts rest (rows.ie a b c d critical e inner f told g) n h =
    let m = means_words inner n (past e (criticality_past critical (past d (past c (past b (past a h)))))) in
    (m.1, past g (presence_past told (past f m.2)))

outcome_words : {word : Word} {nodes all : List Node} {found : Option _} {ts rest : Left} → Outcome word nodes ts found all rest
    → AllWords nodes → AreWords ts → After all rest
outcome_words (rows.outcome a b inner) n h = let m = means_words inner n (past b (past a h)) in (m.1, m.2)
outcome_words (rows.no_outcome without) n h = (n, h)

procedure_words : (nodes all : List Node) (row : ProcedureRow) (ts rest : Left) → AProcedure nodes ts row all rest → AllWords nodes
    → AreWords ts → After all rest
procedure_words nodes all row ts rest (rows.procedure a b c inner good bad d e f g critical i) n h =
    let m = means_words inner n (past c (past b (past a h))) in
    let s = outcome_words good m.1 m.2 in
    let u = outcome_words bad s.0 s.1 in
    (u.0, past i (criticality_past critical (past g (past f (past e (past d u.1))))))

rows_words : {R : Type 0} (Row : List Node → Left → R → List Node → Left → Type 0)
    → ((nodes all : List Node) (row : R) (ts rest : Left) → Row nodes ts row all rest → AllWords nodes → AreWords ts → After all rest)
    → {nodes all : List Node} {rs : List R} {ts rest : Left} → Rows Row nodes ts rs all rest → AllWords nodes → AreWords ts → After all rest
rows_words Row one (rows.last row a b c) n h = let m = one _ _ _ _ _ row n h in (m.0, past c (past b (past a m.1)))
rows_words Row one (rows.more row a others) n h = let m = one _ _ _ _ _ row n h in rows_words Row one others m.0 (past a m.1)

-- ---- modules

body_words : {nodes all : List Node} {body : Body} {ts rest : Left} → MeansBody nodes ts body all rest → AllWords nodes → AreWords ts
    → After all rest
body_words (modules.a_type a inner) n h = let m = means_words inner n (past a h) in (m.1, m.2)
body_words (modules.ie_set a b c set) n h = rows_words AnIe ie_words set n (past c (past b (past a h)))
body_words (modules.procedure_set a b c set) n h = rows_words AProcedure procedure_words set n (past c (past b (past a h)))

assignments_words : {nodes all : List Node} {assignments : List Assignment} {end : ℕ} {ts : Left}
    → MeansAssignments nodes ts assignments all end → AllWords nodes → AreWords ts → AllWords all
assignments_words (modules.none a) n h = n
assignments_words (modules.one a body others) n h =
    let m = body_words body n (past a h) in
    assignments_words others m.0 m.1

pub module_words : {m : Syntax} {ts : Left} → MeansModule ts m → AreWords ts → AllWords m.nodes
module_words (modules.a_module a b c d e f assignments) h =
    assignments_words assignments tt (past f (past e (past d (past c (past b (past a h))))))
