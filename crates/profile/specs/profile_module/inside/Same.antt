-- Internal: whether two modules write types alike, as far as the profile's types go: at most three stand one inside another.
use Rattle.std.specs.Prelude.{ℕ, ◌==◌, List, [], ◌∷◌, map, Bool, true, false, Option, Some, None, ◌&&◌, ◌||◌, if◌then◌else◌}
use Rattle.asn1_tokens.specs.Words.{is_text}
use Rattle.asn1_syntax.specs.declared.types.definition.TypeId.{TypeId}
use Rattle.asn1_syntax.specs.declared.types.definition.Component.{Component}
use Rattle.asn1_syntax.specs.declared.types.definition.Extensible.{Extensible}
use Rattle.asn1_syntax.specs.declared.types.definition.Definition.{Definition}
use Rattle.asn1_syntax.specs.declared.types.definition.Definition.TheVariants as types
use Rattle.asn1_syntax.specs.declared.assignments.assignment.IeRow.{IeRow}
use Rattle.asn1_syntax.specs.declared.assignments.assignment.ProcedureRow.{ProcedureRow}
use Rattle.asn1_syntax.specs.declared.assignments.assignment.Assignment.{Assignment}
use Rattle.asn1_syntax.specs.declared.assignments.assignment.Syntax.{Syntax}
use Rattle.asn1_defs.specs.Targets.{find_type, ie_rows, procedure_rows, type_name}
use Rattle.profile.specs.declared.profile_module.names.TheConstants.{TYPE_NAMES}
use Rattle.message_defs.specs.profile_defs.Agreement.{is_same_bool, is_same_number, is_same_size, are_names, is_reject, is_mandatory, definition_at}

-- ---- without another type inside

-- `...` with nothing after it in both, or in none
abbrev pub is_bare_alike : {T : Type 0} → Option (List T) → Option (List T) → Bool
is_bare_alike None None = true
is_bare_alike (Some []) (Some []) = true
is_bare_alike a b = false

abbrev pub same_names : Extensible (List ℕ) → Extensible (List ℕ) → Bool
same_names a b = are_names a.root b.root && is_bare_alike a.additions b.additions

unfoldable pub same_plain : Option Definition → Option Definition → Bool
same_plain (Some types.Boolean) (Some types.Boolean) = true
same_plain (Some (types.Integer low high more)) (Some (types.Integer l h m)) = is_same_number low l && is_same_number high h && is_same_bool more m
same_plain (Some (types.Enumerated a)) (Some (types.Enumerated b)) = same_names a b
same_plain (Some (types.BitString a)) (Some (types.BitString b)) = is_same_size a b
same_plain (Some (types.OctetString a)) (Some (types.OctetString b)) = is_same_size a b
same_plain (Some (types.PrintableString a)) (Some (types.PrintableString b)) = is_same_size a b
same_plain (Some (types.Reference a)) (Some (types.Reference b)) = is_text b a
same_plain a b = false

abbrev pub same_plain_at : Syntax → Syntax → TypeId → TypeId → Bool
same_plain_at p m a b = same_plain (definition_at p a) (definition_at m b)

-- ---- sets

unfoldable pub same_elements : Syntax → Syntax → List IeRow → List IeRow → Bool
same_elements p m [] [] = true
same_elements p m (a ∷ as') (b ∷ bs) =
    b.id == a.id && is_reject b.criticality && same_plain_at p m a.definition b.definition
    && is_same_bool (is_mandatory a.presence) (is_mandatory b.presence) && same_elements p m as' bs
same_elements p m _ _ = false

abbrev pub same_outcome : Syntax → Syntax → Option TypeId → Option TypeId → Bool
same_outcome p m None None = true
same_outcome p m (Some a) (Some b) = same_plain_at p m a b
same_outcome p m _ _ = false

unfoldable pub same_procedures : Syntax → Syntax → List ProcedureRow → List ProcedureRow → Bool
same_procedures p m [] [] = true
same_procedures p m (a ∷ as') (b ∷ bs) =
    b.code == a.code && is_reject b.criticality && same_plain_at p m a.initiating b.initiating
    && same_outcome p m a.successful b.successful && same_outcome p m a.unsuccessful b.unsuccessful && same_procedures p m as' bs
same_procedures p m _ _ = false

abbrev pub same_element_sets : Syntax → Syntax → Option (List IeRow) → Option (List IeRow) → Bool
same_element_sets p m (Some a) (Some b) = same_elements p m a b
same_element_sets p m _ _ = false

abbrev pub same_procedure_sets : Syntax → Syntax → Option (List ProcedureRow) → Option (List ProcedureRow) → Bool
same_procedure_sets p m (Some a) (Some b) = same_procedures p m a b
same_procedure_sets p m _ _ = false

-- a type as it may stand in a SEQUENCE or CHOICE
unfoldable pub same_inner : Syntax → Syntax → Option Definition → Option Definition → Bool
same_inner p m (Some (types.IeContainer a)) (Some (types.IeContainer b)) =
    same_element_sets p m (ie_rows a p.assignments) (ie_rows b m.assignments)
same_inner p m (Some (types.Pdu a)) (Some (types.Pdu b)) = same_procedure_sets p m (procedure_rows a p.assignments) (procedure_rows b m.assignments)
same_inner p m a b = same_plain a b

abbrev pub same_inner_at : Syntax → Syntax → TypeId → TypeId → Bool
same_inner_at p m a b = same_inner p m (definition_at p a) (definition_at m b)

-- ---- members

unfoldable pub same_parts : Syntax → Syntax → List Component → List Component → Bool
same_parts p m [] [] = true
same_parts p m (a ∷ as') (b ∷ bs) =
    is_text b.name a.name && is_same_bool a.optional b.optional && same_inner_at p m a.definition b.definition && same_parts p m as' bs
same_parts p m _ _ = false

-- of additions OPTIONAL doesn't matter
unfoldable pub same_added : Syntax → Syntax → List Component → List Component → Bool
same_added p m [] [] = true
same_added p m (a ∷ as') (b ∷ bs) = is_text b.name a.name && same_inner_at p m a.definition b.definition && same_added p m as' bs
same_added p m _ _ = false

abbrev pub same_additions : Syntax → Syntax → Option (List Component) → Option (List Component) → Bool
same_additions p m (Some a) (Some b) = same_added p m a b
same_additions p m _ _ = false

unfoldable pub same_type : Syntax → Syntax → Option Definition → Option Definition → Bool
same_type p m (Some (types.Sequence a)) (Some (types.Sequence b)) = same_parts p m a.root b.root && same_additions p m a.additions b.additions
same_type p m (Some (types.Choice a)) (Some (types.Choice b)) = same_parts p m a.root b.root && is_bare_alike a.additions b.additions
same_type p m (Some (types.SequenceOf size a)) (Some (types.SequenceOf other b)) = is_same_size size other && same_inner_at p m a b
same_type p m a b = same_inner p m a b

-- ---- named types

abbrev pub same_found : Syntax → Syntax → Option TypeId → Option TypeId → Bool
same_found p m (Some a) (Some b) = same_type p m (definition_at p a) (definition_at m b)
same_found p m _ _ = false

abbrev pub has_same : Syntax → Syntax → List ℕ → Bool
has_same p m name = same_found p m (find_type name p.assignments) (find_type name m.assignments)

-- the first of these names that isn't that of the same type in both
unfoldable pub first_other : Syntax → Syntax → List (List ℕ) → Option (List ℕ)
first_other p m [] = None
first_other p m (name ∷ names) = if has_same p m name then first_other p m names else Some name

unfoldable pub is_among : List ℕ → List (List ℕ) → Bool
is_among name [] = false
is_among name (other ∷ names) = is_text name other || is_among name names

-- the first name of these types that isn't among the names
unfoldable pub first_new : List (List ℕ) → List Assignment → List TypeId → Option (List ℕ)
first_new names assignments [] = None
first_new names assignments (id ∷ ids) =
    if is_among (type_name id assignments) names then first_new names assignments ids else Some (type_name id assignments)

-- the names that are asked for
abbrev pub own_names : List (List ℕ)
own_names = map (λ name. name.now) TYPE_NAMES
