-- The items of sets hold the names by which the types in their rows refer.
use Rattle.std.proofs.Common.{◌≡◌, List, refl}
use Rattle.std.specs.Prelude.{Option, None, pos}
use Rattle.asn1_tokens.specs.declared.token.Word.TheVariants as words
use Rattle.asn1_tokens.specs.declared.token.Sign.TheVariants as signs
use Rattle.asn1_tokens.specs.declared.token.Token.TheVariants as tokens
use Rattle.asn1_tokens.specs.Stream.{Placed}
use Rattle.asn1_syntax.specs.declared.types.definition.TypeId.{TypeId}
use Rattle.asn1_syntax.specs.declared.types.definition.Node.{Node}
use Rattle.asn1_syntax.specs.declared.assignments.assignment.Criticality.{Criticality}
use Rattle.asn1_syntax.specs.declared.assignments.assignment.Presence.{Presence}
use Rattle.asn1_syntax.specs.declared.assignments.assignment.IeRow.{IeRow}
use Rattle.asn1_syntax.specs.declared.assignments.assignment.ProcedureRow.{ProcedureRow}
use Rattle.asn1_defs.specs.declared.names.Kind.TheVariants as kinds
use Rattle.asn1_defs.specs.RowMeanings.{ACriticality, criticality, APresence, presence, AnIe, ie, Outcome, outcome, no_outcome, AProcedure, procedure, Rows, last, more}
use Rattle.law_asn1.specs.names.Held.{given_kind}
use Rattle.law_asn1.proofs.names.Passing.{◌then◌, plain_passed, sign_passed, begins_with_the, Grown, not_grown, later_grown, grown_then, grown_both, none_passed}
use Rattle.law_asn1.proofs.names.ItemsHeld.{Bare, number_passed, lower_passed}
use Rattle.law_asn1.proofs.names.TypesHeld.{types_held}

criticality_passed : {c : Criticality} {ts rest : List Placed} → ACriticality ts c rest → Bare ts rest
criticality_passed (criticality {name} n is) = lower_passed name n

presence_passed : {p : Presence} {ts rest : List Placed} → APresence ts p rest → Bare ts rest
presence_passed (presence {name} n is) = lower_passed name n

ie_held : {nodes all : List Node} {row : IeRow} {ts rest : List Placed} → AnIe nodes ts row all rest → Grown kinds.Type nodes all ts rest
ie_held (ie {id} a b n d c e m g p i) =
    later_grown
    (sign_passed signs.LeftBrace kinds.Type a then plain_passed (tokens.Word words.Id) refl kinds.Type b then number_passed (pos id) n then
    plain_passed (tokens.Word words.Criticality) refl kinds.Type d then criticality_passed c then plain_passed (tokens.Word words.Type) refl kinds.Type e)
    (grown_then (types_held (begins_with_the (tokens.Word words.Presence) g) m)
    (plain_passed (tokens.Word words.Presence) refl kinds.Type g then presence_passed p then sign_passed signs.RightBrace kinds.Type i))

successful_held : {nodes all : List Node} {x : Option TypeId} {ts rest : List Placed} → given_kind rest ≡ None → Outcome words.Successful nodes ts x all rest → Grown kinds.Type nodes all ts rest
successful_held follows (outcome a b m) =
    later_grown (plain_passed (tokens.Word words.Successful) refl kinds.Type a then plain_passed (tokens.Word words.Outcome) refl kinds.Type b) (types_held follows m)
successful_held {nodes = nodes} {rest = rest} follows (no_outcome w) = not_grown nodes (none_passed kinds.Type rest)

pub successful_follows : {nodes all : List Node} {x : Option TypeId} {ts rest : List Placed} → given_kind rest ≡ None → Outcome words.Successful nodes ts x all rest → given_kind ts ≡ None
successful_follows follows (outcome a b m) = begins_with_the (tokens.Word words.Successful) a
successful_follows follows (no_outcome w) = follows

unsuccessful_held : {nodes all : List Node} {x : Option TypeId} {ts rest : List Placed} → given_kind rest ≡ None → Outcome words.Unsuccessful nodes ts x all rest → Grown kinds.Type nodes all ts rest
unsuccessful_held follows (outcome a b m) =
    later_grown (plain_passed (tokens.Word words.Unsuccessful) refl kinds.Type a then plain_passed (tokens.Word words.Outcome) refl kinds.Type b) (types_held follows m)
unsuccessful_held {nodes = nodes} {rest = rest} follows (no_outcome w) = not_grown nodes (none_passed kinds.Type rest)

pub unsuccessful_follows : {nodes all : List Node} {x : Option TypeId} {ts rest : List Placed} → given_kind rest ≡ None → Outcome words.Unsuccessful nodes ts x all rest → given_kind ts ≡ None
unsuccessful_follows follows (outcome a b m) = begins_with_the (tokens.Word words.Unsuccessful) a
unsuccessful_follows follows (no_outcome w) = follows

procedure_held : {nodes all : List Node} {row : ProcedureRow} {ts rest : List Placed} → AProcedure nodes ts row all rest → Grown kinds.Type nodes all ts rest
procedure_held (procedure {code} a b c m s u p d n e k i) =
    later_grown
    (sign_passed signs.LeftBrace kinds.Type a then plain_passed (tokens.Word words.Initiating) refl kinds.Type b then plain_passed (tokens.Word words.Message) refl kinds.Type c)
    (grown_both (types_held (successful_follows (unsuccessful_follows (begins_with_the (tokens.Word words.Procedure) p) u) s) m)
    (grown_both (successful_held (unsuccessful_follows (begins_with_the (tokens.Word words.Procedure) p) u) s)
    (grown_then (unsuccessful_held (begins_with_the (tokens.Word words.Procedure) p) u)
    (plain_passed (tokens.Word words.Procedure) refl kinds.Type p then plain_passed (tokens.Word words.Code) refl kinds.Type d then number_passed (pos code) n then
    plain_passed (tokens.Word words.Criticality) refl kinds.Type e then criticality_passed k then sign_passed signs.RightBrace kinds.Type i))))

rows_held : {R : Type 0} (Row : List Node → List Placed → R → List Node → List Placed → Type 0)
    → ((nodes all : List Node) (row : R) (ts rest : List Placed) → Row nodes ts row all rest → Grown kinds.Type nodes all ts rest)
    → {nodes all : List Node} {rows : List R} {ts rest : List Placed} → Rows Row nodes ts rows all rest → Grown kinds.Type nodes all ts rest
rows_held Row each (last r a b c) =
    grown_then (each _ _ _ _ _ r) (sign_passed signs.Comma kinds.Type a then sign_passed signs.Ellipsis kinds.Type b then sign_passed signs.RightBrace kinds.Type c)
rows_held Row each (more r a k) = grown_both (each _ _ _ _ _ r) (later_grown (sign_passed signs.Bar kinds.Type a) (rows_held Row each k))

pub ies_held : {nodes all : List Node} {rows : List IeRow} {ts rest : List Placed} → Rows AnIe nodes ts rows all rest → Grown kinds.Type nodes all ts rest
ies_held rows = rows_held AnIe (λ nodes all row ts rest r. ie_held r) rows

pub procedures_held : {nodes all : List Node} {rows : List ProcedureRow} {ts rest : List Placed} → Rows AProcedure nodes ts rows all rest → Grown kinds.Type nodes all ts rest
procedures_held rows = rows_held AProcedure (λ nodes all row ts rest r. procedure_held r) rows
