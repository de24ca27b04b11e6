-- Loose layouts of a value: its fields in their order, with three freedoms. What stands in an open type around a value of a known type
-- may have any size; the length before it may be any from 1 to 16,383; and a number or length in the root of an extensible range or
-- size may stand as one outside it. So a loose layout says which fields may come, before it is known where an open type ends. The field
-- that closes an encoding has either answer, a pad or an octet of zeros; its place tells which of them can stand there.
use Rattle.std.specs.Prelude.{◌≡◌, ℕ, zero, suc, ◌-◌, ◌<◌, ◌≤◌, ◌==◌, List, [], ◌∷◌, ◌++◌, length, map, Bool, true, Option, nat_lt}
use Rattle.std.specs.List.{list_all}
use Rattle.bits_core.specs.Bits.{bit_value}
use Rattle.aper_defs.specs.Trees.{Tree, Parts, Rows, Procedures, Outcome, Slot, slots, slots_left, mandatory_count, part_count, boolean, integer, enumerated, bit_string, octet_string, printable_string, sequence, choice, sequence_of, container, pdu, no_parts, part, no_rows, row, no_procedures, procedure, no_outcome, outcome}
use Rattle.aper_defs.specs.Values.{Value, Values, Options, Ies, value_count, ie_count, has_options, truth, number, enumeral, bits, octets, text, components, chosen, list, elements, message, no_values, value, no_options, absent, present, no_ies, ie}
use Rattle.aper_defs.specs.Fields.{Path, Field, flag, constrained, small, ie_id, pad, opening, closing, end, asked}
use Rattle.aper_defs.specs.Fields as fields
use Rattle.asn1_syntax.specs.declared.types.definition.Size.{Size}
use Rattle.aper_defs.specs.Parts.{Content, of_bits, of_octets, of_characters, extension_fields, index_fields}
use Rattle.aper_defs.specs.Layouts.{raw_fields, flag_fields, mark_fields, message_head}
use Rattle.aper_defs.specs.Membership.{Either, is_index_of, is_printable, are_octets, IsRaw, AreAdditions, IsInOrder}
use Rattle.aper_defs.specs.loose_defs.Forms.{integer_form, HasIntegerForm, string_form, HasStringForm, count_form, HasCountForm}

-- these fields, and then some of a kind
pub record After (front : List Field) (Others : List Field → Type 0) (fs : List Field) : Type 0 where
  pub others : List Field
  pub loose : Others others
  pub is : fs ≡ front ++ others

-- fields of one kind, and then some of another one
pub record Joined (First Second : List Field → Type 0) (fs : List Field) : Type 0 where
  pub front : List Field
  pub others : List Field
  pub first : First front
  pub second : Second others
  pub is : fs ≡ front ++ others

-- what closes an encoding after the fields of its value, and its end
abbrev pub closed_by : Path → (mark : ℕ) → List Field → List Field
closed_by p mark contents = contents ++ asked p closing mark ∷ asked p end 0 ∷ []

-- an open type around contents of a kind
pub record LooseOpen (p inside : Path) (Contents : List Field → Type 0) (fs : List Field) : Type 0 where
  pub told : ℕ
  pub mark : ℕ
  pub contents : List Field
  pub low : 1 ≤ told
  pub high : told ≤ 16383
  pub mark_most : mark ≤ 1
  pub loose : Contents contents
  pub is : fs ≡ asked p pad 0 ∷ asked p opening told ∷ closed_by inside mark contents

abbrev pub LooseString : Path → Content → Option Size → List ℕ → List Field → Type 0
LooseString p content size units fs =
    (outside : Bool) × HasStringForm size outside (length units) × (fs ≡ string_form p content size outside units)

-- octets of what isn't known
abbrev pub LooseRaw : Path → Path → Value → List Field → Type 0
LooseRaw p inside v fs = IsRaw v × (fs ≡ raw_fields p inside v)

abbrev pub LooseRawAdditions : Path → Options → List Field → Type 0
LooseRawAdditions p no_options fs = fs ≡ []
LooseRawAdditions p (absent more) fs = LooseRawAdditions p more fs
LooseRawAdditions p (present v more) fs = Joined (LooseRaw p p v) (LooseRawAdditions p more) fs

-- those of each of these, by its number
abbrev pub LooseEach : (ℕ → Value → List Field → Type 0) → ℕ → Values → List Field → Type 0
LooseEach One i no_values fs = fs ≡ []
LooseEach One i (value v others) fs = Joined (One i v) (LooseEach One (suc i) others) fs

-- information elements, of which those may still come
abbrev pub LooseElements : Path → List Slot → (ℕ → Value → List Field → Type 0) → List Slot → Ies → List Field → Type 0
LooseElements p known Body left no_ies fs = (mandatory_count left ≡ 0) × (fs ≡ [])
LooseElements p known Body left (ie id criticality v others) fs = (id < 65536) × (criticality ≤ 2) × IsInOrder known left id
    × After (asked p pad 0 ∷ asked p (ie_id known left (ie_count others)) id ∷ asked p (constrained fields.index 2 2) criticality ∷ [])
    (Joined (Body id v) (LooseElements p known Body (slots_left known id left) others)) fs

unfoldable mutual
  -- these fields are a loose layout of the value of a type
  pub Loose : Path → Tree → Value → List Field → Type 0
  Loose p boolean (truth b) fs = fs ≡ asked p flag (bit_value b) ∷ []
  Loose p (integer low high extensible) (number z) fs = (outside : Bool)
      × HasIntegerForm low high extensible outside z × (fs ≡ integer_form p low high extensible outside z)
  Loose p (enumerated names extensible) (enumeral i) fs =
      (is_index_of names extensible i ≡ true) × (fs ≡ index_fields p names extensible i)
  Loose p (bit_string size) (bits bs) fs = LooseString p of_bits size (map bit_value bs) fs
  Loose p (octet_string size) (octets os) fs = (are_octets os ≡ true) × LooseString p of_octets size os fs
  Loose p (printable_string size) (text cs) fs = (list_all is_printable cs ≡ true) × LooseString p of_characters size cs fs
  Loose p (sequence extensible root additions) (components vs more) fs = AreAdditions extensible more
      × After (extension_fields p extensible (has_options more) ++ flag_fields p root vs)
      (Joined (LooseComponents p root vs) (After (mark_fields p more) (LooseAdditions p additions more))) fs
  Loose p (choice extensible root additions) (chosen i v) fs = (is_index_of (part_count root) extensible i ≡ true)
      × After (index_fields p (part_count root) extensible i) (λ others. Either (nat_lt i (part_count root))
      (LooseAlternative p root i v others) (LooseAdded p additions (i - part_count root) v others)) fs
  Loose p (sequence_of size t) (list vs) fs = (outside : Bool) × HasCountForm size outside (value_count vs)
      × After (count_form p size outside (value_count vs)) (LooseEach (λ i v. Loose (fields.member i ∷ p) t v) 0 vs) fs
  Loose p (container rows) (elements ies) fs = (ie_count ies < 65536)
      × After (asked p pad 0 ∷ asked p (fields.ie_count (mandatory_count (slots rows))) (ie_count ies) ∷ [])
      (LooseElements p (slots rows) (λ id v. LooseRow p rows id v) (slots rows) ies) fs
  Loose p (pdu procedures) (message index code criticality body) fs = Either (nat_lt index 3)
      ((code < 256) × (criticality ≤ 2)
      × After (message_head p index code criticality) (LooseBody p procedures index code body) fs)
      ((index < 67) × (code ≡ 0) × (criticality ≡ 0)
      × After (asked p flag 1 ∷ asked p (small fields.index) (index - 3) ∷ []) (LooseRaw p p body) fs)
  Loose p t v fs = ⊥

  pub LooseComponents : Path → Parts → Options → List Field → Type 0
  LooseComponents p no_parts no_options fs = fs ≡ []
  LooseComponents p (part name optional t others) (absent vs) fs = (optional ≡ true) × LooseComponents p others vs fs
  LooseComponents p (part name optional t others) (present v vs) fs =
      Joined (Loose (fields.component name ∷ p) t v) (LooseComponents p others vs) fs
  LooseComponents p parts vs fs = ⊥

  pub LooseAdditions : Path → Parts → Options → List Field → Type 0
  LooseAdditions p no_parts more fs = LooseRawAdditions p more fs
  LooseAdditions p (part name optional t others) no_options fs = fs ≡ []
  LooseAdditions p (part name optional t others) (absent more) fs = LooseAdditions p others more fs
  LooseAdditions p (part name optional t others) (present v more) fs = Joined
      (LooseOpen p (fields.component name ∷ p) (Loose (fields.component name ∷ p) t v)) (LooseAdditions p others more) fs

  pub LooseAlternative : Path → Parts → ℕ → Value → List Field → Type 0
  LooseAlternative p no_parts i v fs = ⊥
  LooseAlternative p (part name optional t others) zero v fs = Loose (fields.component name ∷ p) t v fs
  LooseAlternative p (part name optional t others) (suc i) v fs = LooseAlternative p others i v fs

  pub LooseAdded : Path → Parts → ℕ → Value → List Field → Type 0
  LooseAdded p no_parts i v fs = LooseRaw p p v fs
  LooseAdded p (part name optional t others) zero v fs =
      LooseOpen p (fields.component name ∷ p) (Loose (fields.component name ∷ p) t v) fs
  LooseAdded p (part name optional t others) (suc i) v fs = LooseAdded p others i v fs

  pub LooseRow : Path → Rows → ℕ → Value → List Field → Type 0
  LooseRow p no_rows id v fs = LooseRaw p (fields.element id ∷ p) v fs
  LooseRow p (row other mandatory t others) id v fs = Either (other == id)
      (LooseOpen p (fields.element id ∷ p) (Loose (fields.element id ∷ p) t v) fs) (LooseRow p others id v fs)

  pub LooseBody : Path → Procedures → ℕ → ℕ → Value → List Field → Type 0
  LooseBody p no_procedures index code v fs = LooseRaw p (fields.outcome index ∷ p) v fs
  LooseBody p (procedure other initiating successful unsuccessful others) index code v fs = Either (other == code)
      (Either (index == 0) (LooseOutcome p index initiating v fs)
      (Either (index == 1) (LooseOutcome p index successful v fs) (LooseOutcome p index unsuccessful v fs)))
      (LooseBody p others index code v fs)

  pub LooseOutcome : Path → ℕ → Outcome → Value → List Field → Type 0
  LooseOutcome p index no_outcome v fs = LooseRaw p (fields.outcome index ∷ p) v fs
  LooseOutcome p index (outcome t) v fs =
      LooseOpen p (fields.outcome index ∷ p) (Loose (fields.outcome index ∷ p) t v) fs

-- a loose layout of a whole value, with its end
pub record LooseWhole (t : Tree) (v : Value) (fs : List Field) : Type 0 where
  pub mark : ℕ
  pub contents : List Field
  pub mark_most : mark ≤ 1
  pub loose : Loose [] t v contents
  pub is : fs ≡ closed_by [] mark contents
