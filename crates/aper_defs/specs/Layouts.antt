-- The layout of a value: its fields, one equation for each form of type (X.691, 12 to 30).
use Rattle.std.specs.Prelude.{ℕ, zero, suc, ◌-◌, ◌==◌, List, [], ◌∷◌, ◌++◌, length, map, None, nat_lt, if◌then◌else◌}
use Rattle.bits_core.specs.Bits.{bit_value, number_of}
use Rattle.aper_defs.specs.Trees.{Tree, Parts, Rows, Procedures, Outcome, Slot, slots, slots_left, mandatory_count, part_count}
use Rattle.aper_defs.specs.Trees.{boolean, integer, enumerated, bit_string, octet_string, printable_string, sequence, choice, sequence_of, container, pdu, no_parts, part, no_rows, row, no_procedures, procedure, no_outcome, outcome}
use Rattle.aper_defs.specs.Values.{Value, Options, Ies, value_count, ie_count, presence, has_options, each_from}
use Rattle.aper_defs.specs.Values.{truth, number, enumeral, bits, octets, text, components, chosen, list, elements, message, raw, no_options, absent, present, no_ies, ie}
use Rattle.aper_defs.specs.Fields.{Path, Field, flag, constrained, small, extent, addition_bits, ie_id, pad, whole, octet, asked, run}
use Rattle.aper_defs.specs.Fields as fields
use Rattle.aper_defs.specs.Bits.{open_fields}
use Rattle.aper_defs.specs.Parts.{extension_fields, integer_fields, index_fields, string_fields, of_bits, of_octets, of_characters, count_fields}

-- Octets of what isn't known, in place of an open type's contents.
abbrev pub raw_fields : Path → Path → Value → List Field
raw_fields p inside (raw os) = asked p pad 0 ∷ asked p (extent (whole 1 16383 None)) (length os) ∷ run inside octet os ∷ []
raw_fields p inside v = []

-- a bit for each OPTIONAL component (X.691, 19.2)
abbrev pub flag_fields : Path → Parts → Options → List Field
flag_fields p no_parts vs = []
flag_fields p (part name optional t others) no_options = []
flag_fields p (part name optional t others) (absent vs) =
    if optional then asked p flag 0 ∷ flag_fields p others vs else flag_fields p others vs
flag_fields p (part name optional t others) (present v vs) =
    if optional then asked p flag 1 ∷ flag_fields p others vs else flag_fields p others vs

-- how many additions there may be, and which of them are there (X.691, 19.7 and 19.8)
abbrev pub mark_fields : Path → Options → List Field
mark_fields p more = if has_options more
    then asked p (small fields.length) (length (presence more) - 1) ∷ asked p (addition_bits (length (presence more)))
    (number_of (presence more)) ∷ []
    else []

abbrev pub raw_additions : Path → Options → List Field
raw_additions p no_options = []
raw_additions p (absent more) = raw_additions p more
raw_additions p (present v more) = raw_fields p p v ++ raw_additions p more

-- Information elements: of each its id, its criticality and its body (TS 38.413, 9.4, and others). `body` has the fields of an id's body.
abbrev pub ie_fields : Path → List Slot → (ℕ → Value → List Field) → List Slot → Ies → List Field
ie_fields p known body left no_ies = []
ie_fields p known body left (ie id criticality v others) =
    asked p pad 0 ∷ asked p (ie_id known left (ie_count others)) id ∷ asked p (constrained fields.index 2 2) criticality
    ∷ (body id v ++ ie_fields p known body (slots_left known id left) others)

-- what stands before the body of a PDU: the outcome, the procedure's code and its criticality
abbrev pub message_head : Path → ℕ → ℕ → ℕ → List Field
message_head p index code criticality =
    asked p flag 0 ∷ asked p (constrained fields.index 2 2) index ∷ asked p pad 0 ∷ asked p (constrained fields.index 8 255) code
    ∷ asked p (constrained fields.index 2 2) criticality ∷ []

-- the message of a procedure for an outcome
abbrev pub outcome_of : ℕ → Outcome → Outcome → Outcome → Outcome
outcome_of zero initiating successful unsuccessful = initiating
outcome_of (suc zero) initiating successful unsuccessful = successful
outcome_of (suc (suc index)) initiating successful unsuccessful = unsuccessful

unfoldable mutual
  pub layout : Path → Tree → Value → List Field
  layout p boolean (truth b) = asked p flag (bit_value b) ∷ []
  layout p (integer low high extensible) (number z) = integer_fields p low high extensible z
  layout p (enumerated names extensible) (enumeral i) = index_fields p names extensible i
  layout p (bit_string size) (bits bs) = string_fields p of_bits size (map bit_value bs)
  layout p (octet_string size) (octets os) = string_fields p of_octets size os
  layout p (printable_string size) (text cs) = string_fields p of_characters size cs
  layout p (sequence extensible root additions) (components vs more) =
      extension_fields p extensible (has_options more)
      ++ (flag_fields p root vs ++ (component_fields p root vs ++ (mark_fields p more ++ addition_fields p additions more)))
  layout p (choice extensible root additions) (chosen i v) = index_fields p (part_count root) extensible i
      ++ (if nat_lt i (part_count root) then alternative_fields p root i v else added_fields p additions (i - part_count root) v)
  layout p (sequence_of size t) (list vs) =
      count_fields p size (value_count vs) ++ each_from (λ i v. layout (fields.member i ∷ p) t v) 0 vs
  layout p (container rows) (elements ies) =
      asked p pad 0 ∷ asked p (fields.ie_count (mandatory_count (slots rows))) (ie_count ies)
      ∷ ie_fields p (slots rows) (λ id v. row_fields p rows id v) (slots rows) ies
  layout p (pdu procedures) (message index code criticality body) = if nat_lt index 3
      then message_head p index code criticality ++ body_fields p procedures index code body
      else asked p flag 1 ∷ asked p (small fields.index) (index - 3) ∷ raw_fields p p body
  layout p t v = []

  -- the components that are there
  pub component_fields : Path → Parts → Options → List Field
  component_fields p (part name optional t others) (absent vs) = component_fields p others vs
  component_fields p (part name optional t others) (present v vs) = layout (fields.component name ∷ p) t v ++ component_fields p others vs
  component_fields p parts vs = []

  -- the additions that are there, each an open type; past the named ones raw (X.691, 19.9)
  pub addition_fields : Path → Parts → Options → List Field
  addition_fields p no_parts more = raw_additions p more
  addition_fields p (part name optional t others) no_options = []
  addition_fields p (part name optional t others) (absent more) = addition_fields p others more
  addition_fields p (part name optional t others) (present v more) =
      open_fields p (fields.component name ∷ p) (layout (fields.component name ∷ p) t v) ++ addition_fields p others more

  -- the alternative with a number, and the addition (X.691, 23.7 and 23.8)
  pub alternative_fields : Path → Parts → ℕ → Value → List Field
  alternative_fields p no_parts i v = []
  alternative_fields p (part name optional t others) zero v = layout (fields.component name ∷ p) t v
  alternative_fields p (part name optional t others) (suc i) v = alternative_fields p others i v

  pub added_fields : Path → Parts → ℕ → Value → List Field
  added_fields p no_parts i v = raw_fields p p v
  added_fields p (part name optional t others) zero v = open_fields p (fields.component name ∷ p) (layout (fields.component name ∷ p) t v)
  added_fields p (part name optional t others) (suc i) v = added_fields p others i v

  -- the body of an information element: that of its row, or raw
  pub row_fields : Path → Rows → ℕ → Value → List Field
  row_fields p no_rows id v = raw_fields p (fields.element id ∷ p) v
  row_fields p (row other mandatory t others) id v = if other == id
      then open_fields p (fields.element id ∷ p) (layout (fields.element id ∷ p) t v)
      else row_fields p others id v

  -- the body of a message: that of its procedure, or raw
  pub body_fields : Path → Procedures → ℕ → ℕ → Value → List Field
  body_fields p no_procedures index code v = raw_fields p (fields.outcome index ∷ p) v
  body_fields p (procedure other initiating successful unsuccessful others) index code v = if other == code
      then (if index == 0 then outcome_fields p index initiating v
      else if index == 1 then outcome_fields p index successful v
      else outcome_fields p index unsuccessful v)
      else body_fields p others index code v

  pub outcome_fields : Path → ℕ → Outcome → Value → List Field
  outcome_fields p index no_outcome v = raw_fields p (fields.outcome index ∷ p) v
  outcome_fields p index (outcome t) v = open_fields p (fields.outcome index ∷ p) (layout (fields.outcome index ∷ p) t v)
