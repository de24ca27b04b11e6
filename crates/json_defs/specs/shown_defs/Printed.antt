-- The tree of JSON that a value of a type is printed as: hexadecimal digits in upper case, and the members of each object in the order of
-- their keys, octet by octet, as `serde_json` keeps them (`put`). Of what is no value of the type it is any.
use Rattle.std.specs.Prelude.{ℕ, zero, suc, ◌+◌, ◌-◌, ◌==◌, List, [], ◌∷◌, ◌++◌, length, get_or, Bool, nat_lt, if◌then◌else◌, ℤ, pos}
use Rattle.gnb_types.specs.Hex.{hex_of}
use Rattle.serde_json.specs.Data.{Data, null, boolean as truth_value, number as number_value, string, array, object, Items, no_items, item, Members, no_members, member, put}
use Rattle.serde_json.specs.Find.{of_integer}
use Rattle.aper_defs.specs.Values.{Value, Values, Options, Ies, has_options, truth, number, enumeral, bits, octets, text, components, chosen, list, elements, message, raw, no_values, value, no_options, absent, present, no_ies, ie}
use Rattle.json_defs.specs.Named.{Name, Named, NamedParts, NamedRows, NamedProcedures, NamedOutcome, boolean, integer, enumerated, bit_string, octet_string, printable_string, sequence, choice, sequence_of, container, pdu, no_parts, part, no_rows, row, no_procedures, procedure, no_outcome, outcome}
use Rattle.json_defs.specs.Members.{Text, dots, unknown_key, id_key, criticality_key, code_key, value_key, raw_key, criticalities, outcomes}
use Rattle.json_defs.specs.Shown.{count_of, names_of}

abbrev pub integer_shown : ℤ → Data
integer_shown z = number_value (of_integer z)

abbrev pub natural_shown : ℕ → Data
natural_shown n = integer_shown (pos n)

-- a text of 0 and 1
abbrev pub bit_digit : Bool → ℕ
bit_digit b = if b then 49 else 48

abbrev pub bits_text : List Bool → Text
bits_text [] = []
bits_text (b ∷ bs) = bit_digit b ∷ bits_text bs

-- octets of what isn't known
abbrev pub raw_shown : Value → Data
raw_shown (raw os) = string (hex_of os)
raw_shown v = null

-- an object with one member
abbrev pub one_member : Text → Data → Data
one_member key d = object (member key d no_members)

-- the name with a place among names
abbrev pub name_at : List Text → ℕ → Text
name_at names i = get_or names i []

-- what comes so far past the last that has a name
abbrev pub past_shown : ℕ → Value → Data
past_shown past v = one_member dots (array (item (natural_shown past) (item (raw_shown v) no_items)))

abbrev pub name_shown : List Name → ℕ → Data
name_shown names i = if nat_lt i (length names) then string (name_at names i) else one_member unknown_key (natural_shown (i - length names))

abbrev pub items_shown : (Value → Data) → Values → Items
items_shown show no_values = no_items
items_shown show (value v vs) = item (show v) (items_shown show vs)

abbrev pub raws_shown : Options → Items
raws_shown no_options = no_items
raws_shown (absent more) = item null (raws_shown more)
raws_shown (present v more) = item (raw_shown v) (raws_shown more)

-- the components, and the list of additions where there are some
abbrev pub with_additions : Options → Items → Members → Members
with_additions more ds ms = if has_options more then put dots (array ds) ms else ms

abbrev pub criticality_shown : ℕ → Data
criticality_shown criticality = string (name_at criticalities criticality)

-- an information element, or the body of a message: what has a number is known by this key
abbrev pub body_shown : Text → ℕ → ℕ → Members → Data
body_shown key n criticality contents =
    object (member criticality_key (criticality_shown criticality) (member key (natural_shown n) contents))

abbrev pub known_shown : Data → Members
known_shown d = member value_key d no_members

abbrev pub unknown_shown : Value → Members
unknown_shown v = member raw_key (raw_shown v) no_members

abbrev pub elements_shown : (ℕ → Value → Members) → Ies → Items
elements_shown contents no_ies = no_items
elements_shown contents (ie id criticality v others) =
    item (body_shown id_key id criticality (contents id v)) (elements_shown contents others)

unfoldable mutual
  pub shown_as : Named → Value → Data
  shown_as boolean (truth b) = truth_value b
  shown_as (integer low high extensible) (number z) = integer_shown z
  shown_as (enumerated root additions extensible) (enumeral i) = name_shown (root ++ additions) i
  shown_as (bit_string size) (bits bs) = string (bits_text bs)
  shown_as (octet_string size) (octets os) = string (hex_of os)
  shown_as (printable_string size) (text cs) = string cs
  shown_as (sequence extensible root additions) (components vs more) =
      object (with_additions more (added_shown additions more) (components_shown root vs))
  shown_as (choice extensible root additions) (chosen i v) = if nat_lt i (count_of root + count_of additions)
      then one_member (name_at (names_of root ++ names_of additions) i)
      (if nat_lt i (count_of root) then part_shown root i v else part_shown additions (i - count_of root) v)
      else past_shown (i - (count_of root + count_of additions)) v
  shown_as (sequence_of size t) (list vs) = array (items_shown (λ v. shown_as t v) vs)
  shown_as (container rows) (elements ies) = array (elements_shown (λ id v. row_shown rows id v) ies)
  shown_as (pdu procedures) (message index code criticality v) = if nat_lt index 3
      then one_member (name_at outcomes index) (body_shown code_key code criticality (contents_shown procedures index code v))
      else past_shown (index - 3) v
  shown_as t v = null

  pub components_shown : NamedParts → Options → Members
  components_shown no_parts vs = no_members
  components_shown (part name optional t others) no_options = no_members
  components_shown (part name optional t others) (absent vs) = components_shown others vs
  components_shown (part name optional t others) (present v vs) = put name (shown_as t v) (components_shown others vs)

  -- those with names first, null for one that isn't there
  pub added_shown : NamedParts → Options → Items
  added_shown no_parts more = raws_shown more
  added_shown (part name optional t others) no_options = no_items
  added_shown (part name optional t others) (absent more) = item null (added_shown others more)
  added_shown (part name optional t others) (present v more) = item (shown_as t v) (added_shown others more)

  -- a value of the part with this number
  pub part_shown : NamedParts → ℕ → Value → Data
  part_shown no_parts i v = null
  part_shown (part name optional t others) zero v = shown_as t v
  part_shown (part name optional t others) (suc i) v = part_shown others i v

  pub row_shown : NamedRows → ℕ → Value → Members
  row_shown no_rows id v = unknown_shown v
  row_shown (row other mandatory t others) id v = if other == id then known_shown (shown_as t v) else row_shown others id v

  pub contents_shown : NamedProcedures → ℕ → ℕ → Value → Members
  contents_shown no_procedures index code v = unknown_shown v
  contents_shown (procedure other initiating successful unsuccessful others) index code v = if other == code
      then (if index == 0 then outcome_shown initiating v else
      (if index == 1 then outcome_shown successful v else outcome_shown unsuccessful v))
      else contents_shown others index code v

  pub outcome_shown : NamedOutcome → Value → Members
  outcome_shown no_outcome v = unknown_shown v
  outcome_shown (outcome t) v = known_shown (shown_as t v)
