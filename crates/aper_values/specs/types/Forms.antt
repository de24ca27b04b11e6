-- The tree of a form of a type, and the numbers of types in it.
use Rattle.std.specs.Prelude.{ℕ, ◌<◌}
use Rattle.asn1_defs.specs.Links.{PartsBelow, IesBelow, ProceduresBelow}
use Rattle.aper_defs.specs.Trees.{Tree, boolean, integer, enumerated, bit_string, octet_string, printable_string, sequence_of, container, pdu}
use Rattle.aper_values.specs.declared.types.form.Form.{Form}
use Rattle.aper_values.specs.declared.types.form.Form.TheVariants as forms
use Rattle.aper_values.specs.types.Types.{sequence_tree, choice_tree, rows_of, procedures_of}

-- one equation a form; `of` gives the tree of the type with a number
abbrev pub form_tree : (ℕ → Tree) → Form → Tree
form_tree of forms.Boolean = boolean
form_tree of (forms.Integer low high extensible) = integer low high extensible
form_tree of (forms.Enumerated names extensible) = enumerated names extensible
form_tree of (forms.BitString size) = bit_string size
form_tree of (forms.OctetString size) = octet_string size
form_tree of (forms.PrintableString size) = printable_string size
form_tree of (forms.Sequence members) = sequence_tree of members.now
form_tree of (forms.Choice members) = choice_tree of members.now
form_tree of (forms.SequenceOf size element) = sequence_of size (of element.number)
form_tree of (forms.Container rows) = container (rows_of of rows.now)
form_tree of (forms.Pdu rows) = pdu (procedures_of of rows.now)

-- the types in a form have numbers below n
abbrev pub IsFormInside : ℕ → Form → Type 0
IsFormInside n forms.Boolean = Unit {0}
IsFormInside n (forms.Integer low high extensible) = Unit {0}
IsFormInside n (forms.Enumerated names extensible) = Unit {0}
IsFormInside n (forms.BitString size) = Unit {0}
IsFormInside n (forms.OctetString size) = Unit {0}
IsFormInside n (forms.PrintableString size) = Unit {0}
IsFormInside n (forms.Sequence members) = PartsBelow n members.now
IsFormInside n (forms.Choice members) = PartsBelow n members.now
IsFormInside n (forms.SequenceOf size element) = element.number < n
IsFormInside n (forms.Container rows) = IesBelow n rows.now
IsFormInside n (forms.Pdu rows) = ProceduresBelow n rows.now
