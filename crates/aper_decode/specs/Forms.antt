-- Internal: forms of types: within the bounds of the profile, as far as an encoding depends on them, and how much a value of one has to be read.
use Rattle.std.specs.Prelude.{◌≡◌, ℕ, Bool, true, false, ◌^◌, ◌<◌, ◌≤◌, length}
use Rattle.std.specs.Int.Signed.{le_z}
use Rattle.asn1_syntax.specs.types.Members.{additions_of}
use Rattle.aper_defs.specs.Numbers.{above}
use Rattle.aper_defs.specs.Bounds.{IsSizeBounded}
use Rattle.aper_values.specs.declared.types.form.Form.{Form}
use Rattle.aper_values.specs.declared.types.form.Form.TheVariants as forms
use Rattle.aper_frames.specs.Weights.{sequence_weight, choice_weight, list_weight, container_weight, message_weight}

abbrev pub IsFormBounded : Form → Type 0
IsFormBounded forms.Boolean = Unit {0}
IsFormBounded (forms.Integer low high extensible) = (le_z low high ≡ true) × (above low high < 2 ^ 64)
IsFormBounded (forms.Enumerated names extensible) = (1 ≤ names) × (names ≤ 256)
IsFormBounded (forms.BitString size) = IsSizeBounded size
IsFormBounded (forms.OctetString size) = IsSizeBounded size
IsFormBounded (forms.PrintableString size) = IsSizeBounded size
IsFormBounded (forms.Sequence members) = Unit {0}
IsFormBounded (forms.Choice members) = (1 ≤ length members.now.root) × (length members.now.root ≤ 256)
IsFormBounded (forms.SequenceOf size element) = IsSizeBounded size
IsFormBounded (forms.Container rows) = Unit {0}
IsFormBounded (forms.Pdu rows) = Unit {0}

-- none of its values holds others
abbrev pub is_simple : Form → Bool
is_simple forms.Boolean = true
is_simple (forms.Integer low high extensible) = true
is_simple (forms.Enumerated names extensible) = true
is_simple (forms.BitString size) = true
is_simple (forms.OctetString size) = true
is_simple (forms.PrintableString size) = true
is_simple (forms.Sequence members) = false
is_simple (forms.Choice members) = false
is_simple (forms.SequenceOf size element) = false
is_simple (forms.Container rows) = false
is_simple (forms.Pdu rows) = false

-- as its weight is in `Weights` of aper_frames
abbrev pub form_weight : (ℕ → ℕ) → Form → ℕ
form_weight w forms.Boolean = 1
form_weight w (forms.Integer low high extensible) = 1
form_weight w (forms.Enumerated names extensible) = 1
form_weight w (forms.BitString size) = 1
form_weight w (forms.OctetString size) = 1
form_weight w (forms.PrintableString size) = 1
form_weight w (forms.Sequence members) = sequence_weight w members.now.root (additions_of members.now.additions)
form_weight w (forms.Choice members) = choice_weight w members.now.root (additions_of members.now.additions)
form_weight w (forms.SequenceOf size element) = list_weight w 65535 element
form_weight w (forms.Container rows) = container_weight w 65535 rows.now
form_weight w (forms.Pdu rows) = message_weight w rows.now
