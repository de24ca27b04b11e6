-- Which modules are the profile's: each type of the profile has its name in the module and is written there as the profile has it, and the
-- module has no further type. The names of sets don't matter, nor does the order of assignments; what a set holds does.
use Rattle.std.specs.Prelude.{◌≡◌, ℕ, ◌==◌, List, [], ◌∷◌, Bool, true, false, Option, Some, None, option_map, slice_get, nat_lt, ◌&&◌, ◌||◌, not, if◌then◌else◌, ℤ}
use Rattle.std.specs.Int.Signed.{le_z}
use Rattle.asn1_tokens.specs.Words.{is_text}
use Rattle.asn1_syntax.specs.declared.types.definition.TypeId.{TypeId}
use Rattle.asn1_syntax.specs.declared.types.definition.Size.{Size}
use Rattle.asn1_syntax.specs.declared.types.definition.Component.{Component}
use Rattle.asn1_syntax.specs.declared.types.definition.Definition.{Definition}
use Rattle.asn1_syntax.specs.declared.types.definition.Definition.TheVariants as types
use Rattle.asn1_syntax.specs.declared.assignments.assignment.Criticality.{Criticality}
use Rattle.asn1_syntax.specs.declared.assignments.assignment.Criticality.TheVariants.{Reject, Ignore, Notify}
use Rattle.asn1_syntax.specs.declared.assignments.assignment.Presence.{Presence}
use Rattle.asn1_syntax.specs.declared.assignments.assignment.Presence.TheVariants.{Mandatory, Optional}
use Rattle.asn1_syntax.specs.declared.assignments.assignment.IeRow.{IeRow}
use Rattle.asn1_syntax.specs.declared.assignments.assignment.ProcedureRow.{ProcedureRow}
use Rattle.asn1_syntax.specs.declared.assignments.assignment.Assignment.{Assignment}
use Rattle.asn1_syntax.specs.declared.assignments.assignment.Syntax.{Syntax}
use Rattle.asn1_syntax.specs.assignments.Module.{is_type}
use Rattle.asn1_defs.specs.Targets.{find_type, ie_rows, procedure_rows}
use Rattle.message_defs.specs.profile_defs.Forms.{Form, Components, ElementRows, ProcedureRows, OutcomeForm, name_of, meaning_of, boolean, integer, enumerated, bit_string, octet_string, printable_string, sequence, choice, sequence_of, container, pdu, named, no_components, component, no_elements, element, no_procedures, procedure, no_form, some_form}

-- ---- the same
abbrev pub is_same_bool : Bool → Bool → Bool
is_same_bool true b = b
is_same_bool false b = not b

abbrev pub is_same_number : ℤ → ℤ → Bool
is_same_number a b = le_z a b && le_z b a

abbrev pub is_same_size : Option Size → Option Size → Bool
is_same_size None None = true
is_same_size (Some a) (Some b) = a.low == b.low && a.high == b.high && is_same_bool a.extensible b.extensible
is_same_size a b = false

abbrev pub are_names : List (List ℕ) → List (List ℕ) → Bool
are_names [] [] = true
are_names (a ∷ as') (b ∷ bs) = is_text b a && are_names as' bs
are_names as' bs = false

-- `...` with nothing after it, or no `...`
abbrev pub is_extended_bare : {T : Type 0} → Bool → Option (List T) → Bool
is_extended_bare true (Some []) = true
is_extended_bare false None = true
is_extended_bare extensible additions = false

abbrev pub is_reject : Criticality → Bool
is_reject Reject = true
is_reject Ignore = false
is_reject Notify = false

abbrev pub is_mandatory : Presence → Bool
is_mandatory Mandatory = true
is_mandatory Optional = false

-- ---- a type of a module is written as this one
-- the type of a number
abbrev pub definition_at : Syntax → TypeId → Option Definition
definition_at s id = option_map (λ node. node.definition) (slice_get s.nodes id.number)

unfoldable mutual
  pub is_form : Syntax → Form → Option Definition → Bool
  is_form s boolean (Some types.Boolean) = true
  is_form s (integer low high) (Some (types.Integer l h extensible)) = is_same_number low l && is_same_number high h && not extensible
  is_form s (enumerated names extensible) (Some (types.Enumerated found)) =
      are_names names found.root && is_extended_bare extensible found.additions
  is_form s (bit_string size) (Some (types.BitString found)) = is_same_size size found
  is_form s (octet_string size) (Some (types.OctetString found)) = is_same_size size found
  is_form s (printable_string size) (Some (types.PrintableString found)) = is_same_size size found
  is_form s (sequence root additions) (Some (types.Sequence found)) =
      are_components s root found.root && are_additions s additions found.additions
  is_form s (choice alternatives) (Some (types.Choice found)) =
      are_components s alternatives found.root && is_extended_bare true found.additions
  is_form s (sequence_of size form) (Some (types.SequenceOf found member)) =
      is_same_size size found && is_form s form (definition_at s member)
  is_form s (container elements) (Some (types.IeContainer set)) = are_elements s elements (ie_rows set s.assignments)
  is_form s (pdu procedures) (Some (types.Pdu set)) = are_procedures s procedures (procedure_rows set s.assignments)
  is_form s (named name form) (Some (types.Reference found)) = is_text found name
  is_form s form found = false

  -- the same names, each with the same type, and OPTIONAL at the same ones
  pub are_components : Syntax → Components → List Component → Bool
  are_components s no_components [] = true
  are_components s (component name optional form others) (c ∷ cs) =
      is_text c.name name && is_same_bool optional c.optional && is_form s form (definition_at s c.definition) && are_components s others cs
  are_components s _ _ = false

  -- of additions OPTIONAL doesn't matter
  pub are_additions : Syntax → Components → Option (List Component) → Bool
  are_additions s no_components (Some []) = true
  are_additions s (component name optional form others) (Some (c ∷ cs)) =
      is_text c.name name && is_form s form (definition_at s c.definition) && are_additions s others (Some cs)
  are_additions s _ _ = false

  -- the same ids in the same order, each with the same type and presence, and with criticality reject
  pub are_elements : Syntax → ElementRows → Option (List IeRow) → Bool
  are_elements s no_elements (Some []) = true
  are_elements s (element id mandatory form others) (Some (row ∷ rows)) =
      row.id == id && is_reject row.criticality && is_form s form (definition_at s row.definition)
      && is_same_bool mandatory (is_mandatory row.presence) && are_elements s others (Some rows)
  are_elements s _ _ = false

  -- the same codes in the same order, each with the same messages, and with criticality reject
  pub are_procedures : Syntax → ProcedureRows → Option (List ProcedureRow) → Bool
  are_procedures s no_procedures (Some []) = true
  are_procedures s (procedure code initiating successful unsuccessful others) (Some (row ∷ rows)) =
      row.code == code && is_reject row.criticality && is_form s initiating (definition_at s row.initiating)
      && is_outcome s successful row.successful && is_outcome s unsuccessful row.unsuccessful && are_procedures s others (Some rows)
  are_procedures s _ _ = false

  pub is_outcome : Syntax → OutcomeForm → Option TypeId → Bool
  is_outcome s no_form None = true
  is_outcome s (some_form form) (Some id) = is_form s form (definition_at s id)
  is_outcome s form found = false

-- a type of the profile is in a module, as the profile has it
abbrev pub is_found : Syntax → Form → Option TypeId → Bool
is_found s form None = false
is_found s form (Some id) = is_form s form (definition_at s id)

abbrev pub has_type : Syntax → Form → Bool
has_type s t = is_found s (meaning_of t) (find_type (name_of t) s.assignments)

-- ---- the first name that differs
-- a name goes before another one: octet by octet, and a shorter one before a longer one that begins with it
abbrev pub goes_before : List ℕ → List ℕ → Bool
goes_before [] [] = false
goes_before [] (b ∷ bs) = true
goes_before (a ∷ as') [] = false
goes_before (a ∷ as') (b ∷ bs) = nat_lt a b || (a == b && goes_before as' bs)

abbrev pub placed : Form → List Form → List Form
placed t [] = t ∷ []
placed t (u ∷ us) = if goes_before (name_of t) (name_of u) then t ∷ u ∷ us else u ∷ placed t us

abbrev pub by_name : List Form → List Form
by_name [] = []
by_name (t ∷ ts) = placed t (by_name ts)

abbrev pub first_wrong : Syntax → List Form → Option (List ℕ)
first_wrong s [] = None
first_wrong s (t ∷ ts) = if has_type s t then first_wrong s ts else Some (name_of t)

abbrev pub is_name_among : List ℕ → List Form → Bool
is_name_among name [] = false
is_name_among name (t ∷ ts) = is_text name (name_of t) || is_name_among name ts

abbrev pub is_further : List Form → Assignment → Bool
is_further ts a = is_type a && not (is_name_among a.name ts)

abbrev pub first_further : List Form → List Assignment → Option (List ℕ)
first_further ts [] = None
first_further ts (a ∷ as') = if is_further ts a then Some a.name else first_further ts as'

abbrev pub or_else : Option (List ℕ) → Option (List ℕ) → Option (List ℕ)
or_else None other = other
or_else (Some name) other = Some name

-- The first of these types by name order that the module lacks or has otherwise; else its first further type; or none.
abbrev pub differs : List Form → Syntax → Option (List ℕ)
differs ts s = or_else (first_wrong s (by_name ts)) (first_further ts s.assignments)

-- the module's types are these
abbrev pub Agrees : List Form → Syntax → Type 0
Agrees ts s = differs ts s ≡ None
