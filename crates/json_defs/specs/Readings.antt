-- The value that JSON would show: of JSON that is of the form of its type it is that value, and of other JSON any.
use Rattle.std.specs.Prelude.{ℕ, suc, ◌+◌, ◌==◌, List, [], ◌∷◌, ◌++◌, length, false, Option, Some, None, if◌then◌else◌, pos}
use Rattle.serde_json.specs.Data.{Data, null, boolean as truth_value, string, array, object, Items, no_items, item, Members, no_members}
use Rattle.serde_json.specs.Find.{get_member, as_str, as_array, as_object}
use Rattle.aper_defs.specs.Values.{Value, Values, Options, Ies}
use Rattle.aper_defs.specs.Values.{truth, number, enumeral, bits, octets, text, components, chosen, list, elements, message, raw, no_values, value, no_options, absent, present, no_ies, ie}
use Rattle.json_defs.specs.Named.{Name, Named, NamedParts, NamedRows, NamedProcedures, NamedOutcome}
use Rattle.json_defs.specs.Named.{boolean, integer, enumerated, bit_string, octet_string, printable_string, sequence, choice, sequence_of, container, pdu, no_parts, part, no_rows, row, no_procedures, procedure, no_outcome, outcome}
use Rattle.json_defs.specs.Members.{Text, integer_in, natural_in, octets_in, bits_in, place_in, members_in, items_in, member_of, dots, unknown_key, id_key, criticality_key, code_key, value_key, raw_key, criticality_in, outcomes}
use Rattle.json_defs.specs.Shown.{count_of}

-- what is there, or else this
abbrev pub or_else : {X : Type 0} → X → Option X → X
or_else x None = x
or_else x (Some y) = y

abbrev pub raw_in : Data → Value
raw_in d = raw (or_else [] (octets_in d))

-- an item of two: how far past the last name, and the octets
abbrev pub past_in : Data → ℕ
past_in (array (item n ds)) = or_else 0 (natural_in n)
past_in d = 0

abbrev pub past_raw_in : Data → Value
past_raw_in (array (item n (item d ds))) = raw_in d
past_raw_in d = raw []

abbrev pub index_in : List Name → Data → ℕ
index_in names (string s) = or_else 0 (place_in names s 0)
index_in names (object ms) = length names + or_else 0 (natural_in (member_of unknown_key ms))
index_in names d = 0

abbrev pub values_in : (Data → Value) → Items → Values
values_in read no_items = no_values
values_in read (item d ds) = value (read d) (values_in read ds)

abbrev pub raws_in : Items → Options
raws_in no_items = no_options
raws_in (item null ds) = absent (raws_in ds)
raws_in (item d ds) = present (raw_in d) (raws_in ds)

abbrev pub present_if : Option Value → Options → Options
present_if None vs = absent vs
present_if (Some v) vs = present v vs

abbrev pub read_if : (Data → Value) → Option Data → Option Value
read_if read None = None
read_if read (Some d) = Some (read d)

abbrev pub unless_null : (Data → Value) → Data → Option Value
unless_null read null = None
unless_null read d = Some (read d)

abbrev pub additions_in : (Items → Options) → Option Data → Options
additions_in read None = no_options
additions_in read (Some (array ds)) = read ds
additions_in read (Some d) = no_options

abbrev pub element_in : (ℕ → Members → Value) → Members → Ies → Ies
element_in body ms others =
    let id = or_else 0 (natural_in (member_of id_key ms)) in
    ie id (or_else 0 (criticality_in (member_of criticality_key ms))) (body id ms) others

abbrev pub elements_in : (ℕ → Members → Value) → Items → Ies
elements_in body no_items = no_ies
elements_in body (item (object ms) ds) = element_in body ms (elements_in body ds)
elements_in body (item d ds) = element_in body no_members (elements_in body ds)

abbrev pub raw_of : Members → Value
raw_of ms = raw_in (member_of raw_key ms)

abbrev pub code_of : Members → ℕ
code_of ms = or_else 0 (natural_in (member_of code_key ms))

-- ---- which of several names is a member of an object: the first of them

abbrev pub first_of : {X : Type 0} → Option X → Option X → Option X
first_of None later = later
first_of (Some x) later = Some x

abbrev pub numbered : {X : Type 0} → ℕ → Option X → Option (ℕ × X)
numbered i None = None
numbered i (Some x) = Some (i, x)

-- an outcome of a message that is a member, with its number
abbrev pub outcome_in : List Text → ℕ → Members → Option (ℕ × Data)
outcome_in [] i ms = None
outcome_in (name ∷ names) i ms = first_of (numbered i (get_member name ms)) (outcome_in names (suc i) ms)

abbrev pub chosen_in : ℕ → Members → Option (ℕ × Value) → Value
chosen_in past ms None = chosen (past + past_in (member_of dots ms)) (past_raw_in (member_of dots ms))
chosen_in past ms (Some (i, v)) = chosen i v

-- a message, with this body; or one whose outcome isn't known
abbrev pub message_in : (ℕ → ℕ → Members → Value) → Members → Option (ℕ × Data) → Value
message_in body_of ms None = message (3 + past_in (member_of dots ms)) 0 0 (past_raw_in (member_of dots ms))
message_in body_of ms (Some (index, d)) =
    let body = members_in (as_object d) in
    message index (code_of body) (or_else 0 (criticality_in (member_of criticality_key body))) (body_of index (code_of body) body)

unfoldable mutual
  pub value_of : Named → Data → Value
  value_of boolean (truth_value b) = truth b
  value_of (integer low high extensible) d = number (or_else (pos 0) (integer_in d))
  value_of (enumerated root additions extensible) d = enumeral (index_in (root ++ additions) d)
  value_of (bit_string size) d = bits (or_else [] (bits_in d))
  value_of (octet_string size) d = octets (or_else [] (octets_in d))
  value_of (printable_string size) d = text (or_else [] (as_str d))
  value_of (sequence extensible root additions) d =
      let ms = members_in (as_object d) in
      components (components_in root ms) (if extensible then additions_in (λ ds. added_in additions ds) (get_member dots ms) else no_options)
  value_of (choice extensible root additions) d =
      let ms = members_in (as_object d) in
      chosen_in (count_of root + count_of additions) ms
      (first_of (alternative_in root 0 ms) (alternative_in additions (count_of root) ms))
  value_of (sequence_of size t) d = list (values_in (λ e. value_of t e) (items_in (as_array d)))
  value_of (container rows) d = elements (elements_in (λ id ms. row_in rows id ms) (items_in (as_array d)))
  value_of (pdu procedures) d = let ms = members_in (as_object d) in message_in (λ index code body. body_in procedures index code body) ms (outcome_in outcomes 0 ms)
  value_of t d = truth false

  pub components_in : NamedParts → Members → Options
  components_in no_parts ms = no_options
  components_in (part name optional t others) ms = present_if (read_if (λ d. value_of t d) (get_member name ms)) (components_in others ms)

  pub added_in : NamedParts → Items → Options
  added_in no_parts ds = raws_in ds
  added_in (part name optional t others) no_items = no_options
  added_in (part name optional t others) (item d ds) = present_if (unless_null (λ e. value_of t e) d) (added_in others ds)

  pub alternative_in : NamedParts → ℕ → Members → Option (ℕ × Value)
  alternative_in no_parts i ms = None
  alternative_in (part name optional t others) i ms =
      first_of (numbered i (read_if (λ d. value_of t d) (get_member name ms))) (alternative_in others (suc i) ms)

  pub row_in : NamedRows → ℕ → Members → Value
  row_in no_rows id ms = raw_of ms
  row_in (row other mandatory t others) id ms = if other == id then value_of t (member_of value_key ms) else row_in others id ms

  pub body_in : NamedProcedures → ℕ → ℕ → Members → Value
  body_in no_procedures index code ms = raw_of ms
  body_in (procedure other initiating successful unsuccessful others) index code ms = if other == code
      then (if index == 0 then told_in initiating ms else (if index == 1 then told_in successful ms else told_in unsuccessful ms))
      else body_in others index code ms

  pub told_in : NamedOutcome → Members → Value
  told_in no_outcome ms = raw_of ms
  told_in (outcome t) ms = value_of t (member_of value_key ms)
