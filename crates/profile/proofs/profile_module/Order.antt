-- The assignments of a module that was read end one after another, so no two have the same type.
use Rattle.std.proofs.Common.{◌≡◌, ℕ, ◌≤◌, List, [], ◌∷◌, length, Bool, false, refl, sym, ap, ◌∙◌, subst, arith, length-append}
use Rattle.std.specs.Prelude.{Option, Some, if◌then◌else◌}
use Rattle.asn1_syntax.specs.declared.types.definition.TypeId.{TypeId}
use Rattle.asn1_syntax.specs.declared.types.definition.Node.{Node}
use Rattle.asn1_syntax.specs.types.Reading.{Left}
use Rattle.asn1_syntax.specs.declared.assignments.assignment.IeRow.{IeRow}
use Rattle.asn1_syntax.specs.declared.assignments.assignment.ProcedureRow.{ProcedureRow}
use Rattle.asn1_syntax.specs.declared.assignments.assignment.Body.{Body}
use Rattle.asn1_syntax.specs.declared.assignments.assignment.Body.TheVariants as bodies
use Rattle.asn1_syntax.specs.declared.assignments.assignment.Assignment.{Assignment}
use Rattle.asn1_syntax.specs.declared.assignments.assignment.Syntax.{Syntax}
use Rattle.asn1_tokens.specs.declared.token.Word.{Word}
use Rattle.asn1_defs.specs.TypeMeanings.{Piece, Value, Means, with_type}
use Rattle.asn1_defs.specs.TypeMeanings as means
use Rattle.asn1_defs.specs.RowMeanings.{AnIe, AProcedure, Outcome, Rows}
use Rattle.asn1_defs.specs.RowMeanings as rows
use Rattle.asn1_defs.specs.ModuleMeanings.{MeansBody, MeansAssignments, MeansModule}
use Rattle.asn1_defs.specs.ModuleMeanings as modules
use Rattle.asn1_defs.specs.Targets.{type_of, put_type, type_ids, type_name, is_body_of}
use Rattle.asn1_defs.specs.Links.{BodyFrom, BodyBelow, AreParted}
use Rattle.profile.specs.profile_module.inside.Same.{is_among, first_new}

-- ---- types join the list one after another

abbrev Grows : List Node → List Node → Type 0
Grows a b = length a ≤ length b

one_longer : (nodes : List Node) (new : Node) → Grows nodes (with_type nodes new)
one_longer nodes new = omega (arith, length-append nodes (new ∷ []))

longer_by_one : (nodes all : List Node) (new : Node) → Grows nodes all → Grows nodes (with_type all new)
longer_by_one nodes all new h = omega (arith, h, length-append all (new ∷ []))

grows : {piece : Piece} {nodes all : List Node} {ts rest : Left} {value : Value piece} → Means piece nodes ts value all rest → Grows nodes all
grows (means.reference t) = one_longer _ _
grows (means.worded t h) = grows h
grows (means.plain t) = one_longer _ _
grows (means.sequence_of t u h) = longer_by_one _ _ _ (grows h)
grows (means.empty_sequence t u) = one_longer _ _
grows (means.sequence t h) = longer_by_one _ _ _ (grows h)
grows (means.choice t h) = longer_by_one _ _ _ (grows h)
grows (means.member t h u) = grows h
grows (means.mark t h) = grows h
grows (means.last h t) = grows h
grows (means.more h t k) = omega (arith, grows h, grows k)
grows (means.no_more t) = omega arith
grows (means.one_more t h k) = omega (arith, grows h, grows k)

ie_grows : {nodes all : List Node} {ts rest : Left} {row : IeRow} → AnIe nodes ts row all rest → Grows nodes all
ie_grows (rows.ie a b c d e f h i j k) = grows h

outcome_grows : {word : Word} {nodes all : List Node} {ts rest : Left} {found : Option TypeId} → Outcome word nodes ts found all rest → Grows nodes all
outcome_grows (rows.outcome a b h) = grows h
outcome_grows (rows.no_outcome e) = omega arith

procedure_grows : {nodes all : List Node} {ts rest : Left} {row : ProcedureRow} → AProcedure nodes ts row all rest → Grows nodes all
procedure_grows (rows.procedure a b c h i j d e f g k l) = omega (arith, grows h, outcome_grows i, outcome_grows j)

ies_grow : {nodes all : List Node} {ts rest : Left} {found : List IeRow} → Rows AnIe nodes ts found all rest → Grows nodes all
ies_grow (rows.last h a b c) = ie_grows h
ies_grow (rows.more h a k) = omega (arith, ie_grows h, ies_grow k)

procedures_grow : {nodes all : List Node} {ts rest : Left} {found : List ProcedureRow} → Rows AProcedure nodes ts found all rest → Grows nodes all
procedures_grow (rows.last h a b c) = procedure_grows h
procedures_grow (rows.more h a k) = omega (arith, procedure_grows h, procedures_grow k)

body_grows : {nodes all : List Node} {ts rest : Left} {body : Body} → MeansBody nodes ts body all rest → Grows nodes all
body_grows (modules.a_type a h) = grows h
body_grows (modules.ie_set a b c h) = ies_grow h
body_grows (modules.procedure_set a b c h) = procedures_grow h

-- each assignment ends at the one before or after it
abbrev pub Ascends : ℕ → List Assignment → Type 0
Ascends n [] = Unit {0}
Ascends n (a ∷ assignments) = (n ≤ a.end) × Ascends a.end assignments

ascends : {nodes all : List Node} {ts : Left} {assignments : List Assignment} {end : ℕ} → MeansAssignments nodes ts assignments all end
    → Ascends (length nodes) assignments
ascends (modules.none t) = tt
ascends (modules.one t body others) = (body_grows body, ascends others)

pub module_ascends : {ts : Left} {m : Syntax} → MeansModule ts m → Ascends 0 m.assignments
module_ascends (modules.a_module a b c d e f h) = ascends h

-- ---- so a type has the name of its own assignment

abbrev pub AllFrom : ℕ → List TypeId → Type 0
AllFrom n [] = Unit {0}
AllFrom n (id ∷ ids) = (n ≤ id.number) × AllFrom n ids

all_from : (n k : ℕ) (ids : List TypeId) → n ≤ k → AllFrom k ids → AllFrom n ids
all_from n k [] le h = tt
all_from n k (id ∷ ids) le h = (omega (arith, le, h.0), all_from n k ids le h.1)

pub ids_from : (n : ℕ) (assignments : List Assignment) → AreParted n assignments → Ascends n assignments → AllFrom n (type_ids assignments)
unfolding type_ids
ids_from n [] p a = tt
ids_from n (x ∷ assignments) p a = by (all_from n x.end (type_ids assignments) a.0 (ids_from x.end assignments p.2 a.1)) x.body refl
  where
    by : AllFrom n (type_ids assignments) → (body : Body) → x.body ≡ body → AllFrom n (type_ids (x ∷ assignments))
    by others (bodies.Type id) e =
        subst (λ (b : Body). BodyFrom n b → AllFrom n (put_type (type_of b) (type_ids assignments))) (sym e) (λ least. (least, others)) p.0
    by others (bodies.IeSet found) e = subst (λ (b : Body). AllFrom n (put_type (type_of b) (type_ids assignments))) (sym e) others
    by others (bodies.ProcedureSet found) e = subst (λ (b : Body). AllFrom n (put_type (type_of b) (type_ids assignments))) (sym e) others

-- a type of a later assignment isn't that of this one
other_body : (n : ℕ) (id : TypeId) (body : Body) → BodyBelow n body → n ≤ id.number → is_body_of id body ≡ false
other_body n id (bodies.Type other) lt le = grind (arith, lt, le)
other_body n id (bodies.IeSet found) lt le = refl
other_body n id (bodies.ProcedureSet found) lt le = refl

later_name : (a : Assignment) (assignments : List Assignment) (id : TypeId) → BodyBelow a.end a.body → a.end ≤ id.number
    → type_name id (a ∷ assignments) ≡ type_name id assignments
unfolding type_name
later_name a assignments id lt le = ap (λ (b : Bool). if b then a.name else type_name id assignments) (other_body a.end id a.body lt le)

pub later_names : (names : List (List ℕ)) (a : Assignment) (assignments : List Assignment) (ids : List TypeId) → BodyBelow a.end a.body → AllFrom a.end ids
    → first_new names (a ∷ assignments) ids ≡ first_new names assignments ids
unfolding first_new
later_names names a assignments [] lt h = refl
later_names names a assignments (id ∷ ids) lt h =
    ap (λ (n : List ℕ). if is_among n names then first_new names (a ∷ assignments) ids else Some n) (later_name a assignments id lt h.0)
    ∙ ap (λ (o : Option (List ℕ)). if is_among (type_name id assignments) names then o else Some (type_name id assignments)) (later_names names a assignments ids lt h.1)
