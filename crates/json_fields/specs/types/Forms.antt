-- The tree of a form of a type with the names that JSON shows, and the numbers of types in it.
use Rattle.std.specs.Prelude.{ℕ, ◌<◌, List}
use Rattle.asn1_syntax.specs.declared.types.definition.Component.{Component}
use Rattle.asn1_syntax.specs.declared.types.definition.Extensible.{Extensible}
use Rattle.asn1_syntax.specs.types.Members.{additions_of}
use Rattle.asn1_defs.specs.Links.{PartsBelow, IesBelow, ProceduresBelow}
use Rattle.aper_values.specs.types.Types.{is_extensible}
use Rattle.json_defs.specs.Named.{Named, boolean, integer, enumerated, bit_string, octet_string, printable_string, sequence, choice, sequence_of, container, pdu}
use Rattle.json_defs.specs.type_defs.Types.{parts_with, rows_with, procedures_with}
use Rattle.json_fields.specs.declared.types.form.NamedForm.{NamedForm}
use Rattle.json_fields.specs.declared.types.form.NamedForm.TheVariants as forms

abbrev pub enumerated_named : Extensible (List ℕ) → Named
enumerated_named names = enumerated names.root (additions_of names.additions) (is_extensible names)

abbrev pub sequence_named : (ℕ → Named) → Extensible Component → Named
sequence_named of members =
    sequence (is_extensible members) (parts_with of members.root) (parts_with of (additions_of members.additions))

abbrev pub choice_named : (ℕ → Named) → Extensible Component → Named
choice_named of members =
    choice (is_extensible members) (parts_with of members.root) (parts_with of (additions_of members.additions))

-- one equation a form; `of` gives the tree of the type with a number
abbrev pub form_named : (ℕ → Named) → NamedForm → Named
form_named of forms.Boolean = boolean
form_named of (forms.Integer low high extensible) = integer low high extensible
form_named of (forms.Enumerated names) = enumerated_named names.now
form_named of (forms.BitString size) = bit_string size
form_named of (forms.OctetString size) = octet_string size
form_named of (forms.PrintableString size) = printable_string size
form_named of (forms.Sequence members) = sequence_named of members.now
form_named of (forms.Choice members) = choice_named of members.now
form_named of (forms.SequenceOf size element) = sequence_of size (of element.number)
form_named of (forms.Container rows) = container (rows_with of rows.now)
form_named of (forms.Pdu rows) = pdu (procedures_with of rows.now)

-- the types in a form have numbers below n
abbrev pub IsFormInside : ℕ → NamedForm → Type 0
IsFormInside n (forms.Sequence members) = PartsBelow n members.now
IsFormInside n (forms.Choice members) = PartsBelow n members.now
IsFormInside n (forms.SequenceOf size element) = element.number < n
IsFormInside n (forms.Container rows) = IesBelow n rows.now
IsFormInside n (forms.Pdu rows) = ProceduresBelow n rows.now
IsFormInside n forms.Boolean = Unit {0}
IsFormInside n (forms.Integer low high extensible) = Unit {0}
IsFormInside n (forms.Enumerated names) = Unit {0}
IsFormInside n (forms.BitString size) = Unit {0}
IsFormInside n (forms.OctetString size) = Unit {0}
IsFormInside n (forms.PrintableString size) = Unit {0}
