-- The questions of the code, as the definitions have them.
use Rattle.std.specs.Prelude.{ℕ, ◌*◌, ◌<◌, ◌≤◌, ◌^◌, List, map, Bool, true, false}
use Rattle.asn1_syntax.specs.declared.assignments.assignment.IeRow.{IeRow}
use Rattle.asn1_syntax.specs.declared.assignments.assignment.Presence.{Presence}
use Rattle.asn1_syntax.specs.declared.assignments.assignment.Presence.TheVariants as presences
use Rattle.aper_defs.specs.Trees.{Slot}
use Rattle.aper_defs.specs.Fields as fields
use Rattle.aper_defs.specs.Reading as reading
use Rattle.aper_cursor.specs.declared.lengths.Extent.{Extent}
use Rattle.aper_cursor.specs.declared.lengths.Extent.TheVariants as extents
use Rattle.aper_cursor.specs.declared.lengths.LengthForm.{LengthForm}
use Rattle.aper_cursor.specs.declared.lengths.LengthForm.TheVariants as forms
use Rattle.aper_cursor.specs.declared.questions.Role.{Role}
use Rattle.aper_cursor.specs.declared.questions.Role.TheVariants as roles
use Rattle.aper_cursor.specs.declared.questions.RunUnit.{RunUnit}
use Rattle.aper_cursor.specs.declared.questions.RunUnit.TheVariants as units
use Rattle.aper_cursor.specs.declared.questions.Question.{Question}
use Rattle.aper_cursor.specs.declared.questions.Question.TheVariants as questions

abbrev pub role_of : Role → fields.Role
role_of roles.Value = fields.value
role_of roles.Index = fields.index
role_of roles.Length = fields.length

abbrev pub unit_of : RunUnit → fields.RunUnit
unit_of units.Bit = fields.bit
unit_of units.Octet = fields.octet

abbrev pub is_mandatory : Presence → Bool
is_mandatory presences.Mandatory = true
is_mandatory presences.Optional = false

abbrev pub slot_of : IeRow → Slot
slot_of row = record { id = row.id; mandatory = is_mandatory row.presence }

abbrev pub slots_of : List IeRow → List Slot
slots_of rows = map slot_of rows

abbrev pub extent_of : Extent → fields.Extent
extent_of (extents.Whole least most outside) = fields.whole least most outside
extent_of (extents.Part before previous outside) = fields.part before previous outside

abbrev pub length_form_of : LengthForm → reading.Form
length_form_of (forms.Octet n) = reading.octet_form n
length_form_of (forms.TwoOctets n) = reading.two_octets n
length_form_of (forms.Units count) = reading.units_form count

abbrev pub question_of : Question → fields.Ask
question_of questions.Flag = fields.flag
question_of (questions.Constrained role width most) = fields.constrained (role_of role) width most
question_of (questions.Digits count most) = fields.digits count most
question_of (questions.Signed count range) = fields.signed count range.low range.high
question_of (questions.Small role) = fields.small (role_of role)
question_of (questions.Extent bounds) = fields.extent (extent_of bounds)
question_of (questions.AdditionBits count) = fields.addition_bits count
question_of questions.Character = fields.character
question_of (questions.IeCount least) = fields.ie_count least
question_of (questions.IeId known left after) = fields.ie_id (slots_of known.now) (slots_of left.now) after
question_of questions.Pad = fields.pad

-- so few units before a part that its length can be added
abbrev pub IsShortExtent : Extent → Type 0
IsShortExtent (extents.Whole least most outside) = Unit {0}
IsShortExtent (extents.Part before previous outside) = before < 2 ^ 32

abbrev pub IsSmallForm : LengthForm → Type 0
IsSmallForm (forms.Octet n) = n < 2 ^ 16
IsSmallForm (forms.TwoOctets n) = n < 2 ^ 16
IsSmallForm (forms.Units count) = count < 2 ^ 8

-- Answers have at most 64 bits.
abbrev pub IsAskable : Question → Type 0
IsAskable questions.Flag = Unit {0}
IsAskable (questions.Constrained role width most) = width ≤ 64
IsAskable (questions.Digits count most) = (1 ≤ count) × (count ≤ 8)
IsAskable (questions.Signed count range) = (1 ≤ count) × (count ≤ 8)
IsAskable (questions.Small role) = Unit {0}
IsAskable (questions.Extent bounds) = IsShortExtent bounds
IsAskable (questions.AdditionBits count) = count ≤ 64
IsAskable questions.Character = Unit {0}
IsAskable (questions.IeCount least) = Unit {0}
IsAskable (questions.IeId known left after) = Unit {0}
IsAskable questions.Pad = Unit {0}

-- how small a number is that stands at a place, as far as its judgement needs that
abbrev pub IsNumberOf : Question → ℕ → Type 0
IsNumberOf questions.Flag n = Unit {0}
IsNumberOf (questions.Constrained role width most) n = Unit {0}
IsNumberOf (questions.Digits count most) n = Unit {0}
IsNumberOf (questions.Signed count range) n = n < 2 ^ (8 * count)
IsNumberOf (questions.Small role) n = Unit {0}
IsNumberOf (questions.Extent bounds) n = n < 2 ^ 16
IsNumberOf (questions.AdditionBits count) n = Unit {0}
IsNumberOf questions.Character n = Unit {0}
IsNumberOf (questions.IeCount least) n = Unit {0}
IsNumberOf (questions.IeId known left after) n = Unit {0}
IsNumberOf questions.Pad n = Unit {0}
