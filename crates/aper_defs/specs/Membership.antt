-- What is a value of a type (X.680, in the profile). A value inside is looked at with the way to it, as its layout is.
use Rattle.std.specs.Prelude.{◌≡◌, ℕ, zero, suc, ◌+◌, ◌-◌, ◌<◌, ◌≤◌, ◌==◌, List, ◌∷◌, length, Bool, true, false, Option, Some, None, nat_lt, nat_le, ◌&&◌, ◌||◌, if◌then◌else◌, ℤ}
use Rattle.std.specs.List.{list_all}
use Rattle.asn1_syntax.specs.declared.types.definition.Size.{Size}
use Rattle.aper_defs.specs.Trees.{Tree, Parts, Rows, Procedures, Outcome, Slot, slots, slots_left, slots_before, has_slot, mandatory_count, part_count, boolean, integer, enumerated, bit_string, octet_string, printable_string, sequence, choice, sequence_of, container, pdu, no_parts, part, no_rows, row, no_procedures, procedure, no_outcome, outcome}
use Rattle.aper_defs.specs.Values.{Value, Values, Options, Ies, value_count, ie_count, presence, truth, number, enumeral, bits, octets, text, components, chosen, list, elements, message, raw, no_values, value, no_options, absent, present, no_ies, ie}
use Rattle.aper_defs.specs.Numbers.{in_range, is_signed}
use Rattle.aper_defs.specs.Fields.{Path, Field}
use Rattle.aper_defs.specs.Fields as fields
use Rattle.aper_defs.specs.Bits.{closed, octet_count}
use Rattle.aper_defs.specs.Parts.{in_size}
use Rattle.aper_defs.specs.Layouts.{layout}

-- one fact where a test holds, and another one where it doesn't
abbrev pub Either : Bool → Type 0 → Type 0 → Type 0
Either true A B = A
Either false A B = B

-- A number in the range, or where the type is extensible one of 64 bits.
abbrev pub is_number_of : ℤ → ℤ → Bool → ℤ → Bool
is_number_of low high extensible z = in_range low high z || (extensible && is_signed z)

-- An index of the root, or where the type is extensible one of 64 past it.
abbrev pub is_index_of : ℕ → Bool → ℕ → Bool
is_index_of count extensible i = nat_lt i count || (extensible && nat_lt i (count + 64))

-- as many as a size allows; past an extensible one, and without a size, at most so many
abbrev pub is_count_of : Option ℕ → Option Size → ℕ → Bool
is_count_of None None n = true
is_count_of None (Some size) n = in_size size n || size.extensible
is_count_of (Some most) None n = nat_le n most
is_count_of (Some most) (Some size) n = in_size size n || (size.extensible && nat_le n most)

-- The characters of PrintableString (X.680, 41.4): letters, digits, space and '()+,-./:=?
abbrev pub is_printable : ℕ → Bool
is_printable c = (nat_le 97 c && nat_le c 122) || (nat_le 65 c && nat_le c 90) ||
    (nat_le 39 c && nat_le c 58 && (if c == 42 then false else true)) || (c == 32) || (c == 61) || (c == 63)

abbrev pub are_octets : List ℕ → Bool
are_octets os = list_all (λ o. nat_lt o 256) os

-- what isn't known: 1 to 16,383 octets
abbrev pub IsRaw : Value → Type 0
IsRaw (raw os) = (1 ≤ length os) × (length os ≤ 16383) × (are_octets os ≡ true)
IsRaw v = ⊥

-- the complete encoding of these fields fits an open type
abbrev pub FitsOpen : Path → List Field → Type 0
FitsOpen inside fields = octet_count (closed inside fields) ≤ 16383

-- each of these has a property by its number
abbrev pub EachFrom : (ℕ → Value → Type 0) → ℕ → Values → Type 0
EachFrom P i no_values = Unit {0}
EachFrom P i (value v others) = P i v × EachFrom P (suc i) others

abbrev pub AreRaw : Options → Type 0
AreRaw no_options = Unit {0}
AreRaw (absent more) = AreRaw more
AreRaw (present v more) = IsRaw v × AreRaw more

-- none, or 1 to 64 of which one at least is there
abbrev pub some_present : Options → Bool
some_present no_options = false
some_present (absent more) = some_present more
some_present (present v more) = true

abbrev pub AreAdditions : Bool → Options → Type 0
AreAdditions extensible no_options = Unit {0}
AreAdditions extensible more = (extensible ≡ true) × (length (presence more) ≤ 64) × (some_present more ≡ true)

-- An information element in the order of its set: an unknown one anywhere; a known one among those that may still come, without passing
-- over a mandatory one.
abbrev pub IsInOrder : List Slot → List Slot → ℕ → Type 0
IsInOrder known left id = Either (has_slot id known) ((has_slot id left ≡ true) × (mandatory_count (slots_before id left) ≡ 0)) (Unit {0})

-- information elements, of which those may still come
abbrev pub AreElements : List Slot → (ℕ → Value → Type 0) → List Slot → Ies → Type 0
AreElements known IsBody left no_ies = mandatory_count left ≡ 0
AreElements known IsBody left (ie id criticality v others) =
    (id < 65536) × (criticality ≤ 2) × IsBody id v × IsInOrder known left id × AreElements known IsBody (slots_left known id left) others

unfoldable mutual
  pub Has : Path → Tree → Value → Type 0
  Has p boolean (truth b) = Unit {0}
  Has p (integer low high extensible) (number z) = is_number_of low high extensible z ≡ true
  Has p (enumerated names extensible) (enumeral i) = is_index_of names extensible i ≡ true
  Has p (bit_string size) (bits bs) = is_count_of None size (length bs) ≡ true
  Has p (octet_string size) (octets os) = (is_count_of None size (length os) ≡ true) × (are_octets os ≡ true)
  Has p (printable_string size) (text cs) = (is_count_of None size (length cs) ≡ true) × (list_all is_printable cs ≡ true)
  Has p (sequence extensible root additions) (components vs more) =
      HasComponents p root vs × AreAdditions extensible more × HasAdditions p additions more
  Has p (choice extensible root additions) (chosen i v) = (is_index_of (part_count root) extensible i ≡ true)
      × Either (nat_lt i (part_count root)) (HasAlternative p root i v) (HasAdded p additions (i - part_count root) v)
  Has p (sequence_of size t) (list vs) = (is_count_of (Some 16383) size (value_count vs) ≡ true)
      × EachFrom (λ i v. Has (fields.member i ∷ p) t v) 0 vs
  Has p (container rows) (elements ies) =
      (ie_count ies < 65536) × AreElements (slots rows) (λ id v. HasRow p rows id v) (slots rows) ies
  Has p (pdu procedures) (message index code criticality body) = Either (nat_lt index 3)
      ((code < 256) × (criticality ≤ 2) × HasBody p procedures index code body)
      ((index < 67) × (code ≡ 0) × (criticality ≡ 0) × IsRaw body)
  Has p t v = ⊥

  -- each mandatory component is there
  pub HasComponents : Path → Parts → Options → Type 0
  HasComponents p no_parts no_options = Unit {0}
  HasComponents p (part name optional t others) (absent vs) = (optional ≡ true) × HasComponents p others vs
  HasComponents p (part name optional t others) (present v vs) = Has (fields.component name ∷ p) t v × HasComponents p others vs
  HasComponents p parts vs = ⊥

  pub HasAdditions : Path → Parts → Options → Type 0
  HasAdditions p no_parts more = AreRaw more
  HasAdditions p (part name optional t others) no_options = Unit {0}
  HasAdditions p (part name optional t others) (absent more) = HasAdditions p others more
  HasAdditions p (part name optional t others) (present v more) = Has (fields.component name ∷ p) t v
      × FitsOpen (fields.component name ∷ p) (layout (fields.component name ∷ p) t v) × HasAdditions p others more

  pub HasAlternative : Path → Parts → ℕ → Value → Type 0
  HasAlternative p no_parts i v = ⊥
  HasAlternative p (part name optional t others) zero v = Has (fields.component name ∷ p) t v
  HasAlternative p (part name optional t others) (suc i) v = HasAlternative p others i v

  pub HasAdded : Path → Parts → ℕ → Value → Type 0
  HasAdded p no_parts i v = IsRaw v
  HasAdded p (part name optional t others) zero v = Has (fields.component name ∷ p) t v
      × FitsOpen (fields.component name ∷ p) (layout (fields.component name ∷ p) t v)
  HasAdded p (part name optional t others) (suc i) v = HasAdded p others i v

  pub HasRow : Path → Rows → ℕ → Value → Type 0
  HasRow p no_rows id v = IsRaw v
  HasRow p (row other mandatory t others) id v = Either (other == id)
      (Has (fields.element id ∷ p) t v × FitsOpen (fields.element id ∷ p) (layout (fields.element id ∷ p) t v))
      (HasRow p others id v)

  pub HasBody : Path → Procedures → ℕ → ℕ → Value → Type 0
  HasBody p no_procedures index code v = IsRaw v
  HasBody p (procedure other initiating successful unsuccessful others) index code v = Either (other == code)
      (Either (index == 0) (HasOutcome p index initiating v)
      (Either (index == 1) (HasOutcome p index successful v) (HasOutcome p index unsuccessful v)))
      (HasBody p others index code v)

  pub HasOutcome : Path → ℕ → Outcome → Value → Type 0
  HasOutcome p index no_outcome v = IsRaw v
  HasOutcome p index (outcome t) v = Has (fields.outcome index ∷ p) t v
      × FitsOpen (fields.outcome index ∷ p) (layout (fields.outcome index ∷ p) t v)
