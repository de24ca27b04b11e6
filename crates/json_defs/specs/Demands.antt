-- What a type demands of JSON, in order, each with the way to the member of which it is told. The first that fails is the fault; where
-- none fails the JSON is one of a value. An object, a list or a container is told of after its members, and after that whether an open
-- type holds its contents.
use Rattle.std.specs.Prelude.{ℕ, suc, ◌-◌, ◌==◌, ◌&&◌, ◌||◌, not, nat_lt, nat_le, List, [], ◌∷◌, ◌++◌, length, Bool, true, false, Option, Some, None, is_some, if◌then◌else◌, ℤ, pos}
use Rattle.std.specs.List.{list_all}
use Rattle.serde_json.specs.Data.{Data, null, string, array, object, Items, no_items, item, Members}
use Rattle.serde_json.specs.Find.{get_member, as_str, as_array, as_object, as_bool}
use Rattle.aper_defs.specs.Trees.{Slot, slots, slots_left, slots_before, has_slot, mandatory_count}
use Rattle.aper_defs.specs.Numbers.{in_range}
use Rattle.aper_defs.specs.Fields.{Path}
use Rattle.aper_defs.specs.Fields as ways
use Rattle.aper_defs.specs.Bits.{closed, octet_count}
use Rattle.aper_defs.specs.Layouts.{layout}
use Rattle.aper_defs.specs.Membership.{is_number_of, is_count_of, is_printable}
use Rattle.json_defs.specs.declared.fault.JsonFault.{JsonFault}
use Rattle.json_defs.specs.declared.fault.JsonFault.TheVariants.{Shape, Range}
use Rattle.json_defs.specs.Named.{Name, Named, NamedParts, NamedRows, NamedProcedures, NamedOutcome, tree_of, rows_of}
use Rattle.json_defs.specs.Named.{boolean, integer, enumerated, bit_string, octet_string, printable_string, sequence, choice, sequence_of, container, pdu, no_parts, part, no_rows, row, no_procedures, procedure, no_outcome, outcome}
use Rattle.json_defs.specs.Members.{Text, integer_in, natural_in, octets_in, bits_in, is_among, members_in, items_in, member_count, item_count, member_of, has_member, are_keys_among, is_null, dots, unknown_key, id_key, criticality_key, code_key, value_key, raw_key, criticality_in, outcomes}
use Rattle.json_defs.specs.Shown.{count_of, keys_of, element_keys, body_keys}
use Rattle.json_defs.specs.Readings.{or_else, first_of, outcome_in, code_of, value_of}

pub record Demand : Type 0 where
  pub path : Path
  pub fault : JsonFault
  pub holds : Bool

abbrev pub shape : Path → Bool → Demand
shape p holds = record { path = p; fault = Shape; holds = holds }

abbrev pub range : Path → Bool → Demand
range p holds = record { path = p; fault = Range; holds = holds }

-- the first that fails
abbrev pub first_fault : List Demand → Option (JsonFault × Path)
first_fault [] = None
first_fault (demand ∷ demands) = if demand.holds then first_fault demands else Some (demand.fault, demand.path)

-- ---- forms of JSON

-- so far past the last name, below this
abbrev pub is_below : ℕ → Option ℕ → Bool
is_below room None = false
is_below room (Some n) = nat_lt n room

-- an ENUMERATED: a name of it, or an object that tells how far past the last name
abbrev pub is_name : List Name → Bool → ℕ → Data → Bool
is_name names extensible room (string s) = is_among names s
is_name names extensible room (object ms) =
    extensible && member_count ms == 1 && is_below room (natural_in (member_of unknown_key ms))
is_name names extensible room d = false

-- a list of two: how far past the last name, and what isn't known
abbrev pub is_past : ℕ → Data → Bool
is_past room (array (item n (item d no_items))) = is_below room (natural_in n)
is_past room d = false

abbrev pub second_of : Data → Data
second_of (array (item n (item d ds))) = d
second_of d = null

-- octets of what isn't known: 1 to 16,383
abbrev pub raw_demands : Path → Data → List Demand
raw_demands p d =
    let count = length (or_else [] (octets_in d)) in shape p (is_some (octets_in d)) ∷ range p (nat_le 1 count && nat_le count 16383) ∷ []

abbrev pub past_demands : Path → ℕ → Data → List Demand
past_demands p room d = shape p (is_past room d) ∷ raw_demands p (second_of d)

-- the contents of an open type are a complete encoding of at most 16,383 octets
abbrev pub fits_open : Path → Named → Data → Bool
fits_open inside t d = nat_le (octet_count (closed inside (layout inside (tree_of t) (value_of t d)))) 16383

-- a whole number from 0 to this one
abbrev pub is_within : ℕ → Option ℤ → Bool
is_within most None = false
is_within most (Some z) = in_range (pos 0) (pos most) z

-- ---- lists

abbrev pub each_demand : (ℕ → Data → List Demand) → ℕ → Items → List Demand
each_demand of i no_items = []
each_demand of i (item d ds) = of i d ++ each_demand of (suc i) ds

abbrev pub any_told : Items → Bool
any_told no_items = false
any_told (item d ds) = not (is_null d) || any_told ds

abbrev pub raw_each : Path → Items → List Demand
raw_each p no_items = []
raw_each p (item d ds) = (if is_null d then [] else raw_demands p d) ++ raw_each p ds

-- information elements in the order of their set, the mandatory ones all
abbrev pub is_next : List Slot → List Slot → ℕ → Bool
is_next known left id = if has_slot id known then has_slot id left && mandatory_count (slots_before id left) == 0 else true

abbrev pub id_in : Data → ℕ
id_in d = or_else 0 (natural_in (member_of id_key (members_in (as_object d))))

abbrev pub are_in_order : List Slot → List Slot → Items → Bool
are_in_order known left no_items = mandatory_count left == 0
are_in_order known left (item d ds) = is_next known left (id_in d) && are_in_order known (slots_left known (id_in d) left) ds

-- ---- what isn't known of an information element or a message, with the other members of its object

abbrev pub raw_member : Path → List Text → Members → List Demand
raw_member p keys ms =
    shape p (has_member raw_key ms) ∷ (raw_demands p (member_of raw_key ms) ++ shape p (are_keys_among (raw_key ∷ keys) ms) ∷ [])

abbrev pub known_member : Path → List Text → Members → Named → List Demand → List Demand
known_member p keys ms t inside =
    shape p (has_member value_key ms) ∷ (inside ++ shape p (are_keys_among (value_key ∷ keys) ms) ∷ range p (fits_open p t (member_of value_key ms)) ∷ [])

-- what is demanded of a member, if it is there
abbrev pub if_there : (Data → List Demand) → Option Data → List Demand → List Demand
if_there of None else_demands = else_demands
if_there of (Some d) else_demands = of d

abbrev pub on_members : {X : Type 0} → (X → List Demand) → Option X → Option (List Demand)
on_members of None = None
on_members of (Some x) = Some (of x)

-- one member alone
abbrev pub only_member : Path → Members → List Demand
only_member p ms = shape p (member_count ms == 1) ∷ []

-- the list of additions: 1 to 64, not all of them null
abbrev pub added_demands : Path → (Items → List Demand) → Data → List Demand
added_demands p each d =
    let ds = items_in (as_array d) in
    shape p (is_some (as_array d)) ∷ (each ds ++ range p (nat_le 1 (item_count ds) && nat_le (item_count ds) 64 && any_told ds) ∷ [])

-- an information element: its id, of which the container is told; then its criticality and its contents
abbrev pub element_demands : Path → (Path → ℕ → Members → List Demand) → Data → List Demand
element_demands p contents d =
    let ms = members_in (as_object d) in
    let id = integer_in (member_of id_key ms) in
    let inside = ways.element (id_in d) ∷ p in
    shape p (is_some (as_object d) && is_some id) ∷ range p (is_within 65535 id)
    ∷ shape inside (is_some (criticality_in (member_of criticality_key ms))) ∷ contents inside (id_in d) ms

-- a message: the code of its procedure, its criticality and its contents; or one whose outcome isn't known
abbrev pub message_demands : Path → (Path → ℕ → ℕ → Members → List Demand) → Members → Option (ℕ × Data) → List Demand
message_demands p contents ms None = shape p (has_member dots ms) ∷ past_demands p 64 (member_of dots ms)
message_demands p contents ms (Some (index, d)) =
    let body = members_in (as_object d) in
    let code = integer_in (member_of code_key body) in
    let inside = ways.outcome index ∷ p in
    shape inside (is_some (as_object d)) ∷ shape inside (is_some code) ∷ range inside (is_within 255 code)
    ∷ shape inside (is_some (criticality_in (member_of criticality_key body))) ∷ contents inside index (code_of body) body

unfoldable mutual
  pub demands : Path → Named → Data → List Demand
  demands p boolean d = shape p (is_some (as_bool d)) ∷ []
  demands p (integer low high extensible) d =
      shape p (is_some (integer_in d)) ∷ range p (is_number_of low high extensible (or_else (pos 0) (integer_in d))) ∷ []
  demands p (enumerated root additions extensible) d = shape p (is_name (root ++ additions) extensible (64 - length additions) d) ∷ []
  demands p (bit_string size) d =
      shape p (is_some (bits_in d)) ∷ range p (is_count_of None size (length (or_else [] (bits_in d)))) ∷ []
  demands p (octet_string size) d =
      shape p (is_some (octets_in d)) ∷ range p (is_count_of None size (length (or_else [] (octets_in d)))) ∷ []
  demands p (printable_string size) d =
      let s = or_else [] (as_str d) in
      shape p (is_some (as_str d)) ∷ range p (is_count_of None size (length s) && list_all is_printable s) ∷ []
  demands p (sequence extensible root additions) d =
      let ms = members_in (as_object d) in
      let more = if extensible then get_member dots ms else None in
      shape p (is_some (as_object d)) ∷ (component_demands p root ms
      ++ (if_there (λ e. added_demands p (λ ds. each_added p additions ds) e) more []
      ++ (shape p (are_keys_among (keys_of extensible root) ms)
      ∷ if_there (λ e. open_demands p additions (items_in (as_array e))) more [])))
  demands p (choice extensible root additions) d =
      let ms = members_in (as_object d) in
      shape p (is_some (as_object d)) ∷ (or_else
      (shape p (extensible && has_member dots ms) ∷ (past_demands p (64 - count_of additions) (member_of dots ms) ++ only_member p ms))
      (first_of (alternative_demands p root ms) (addition_demands p additions ms)))
  demands p (sequence_of size t) d =
      let ds = items_in (as_array d) in
      shape p (is_some (as_array d)) ∷ (each_demand (λ i e. demands (ways.member i ∷ p) t e) 0 ds
      ++ range p (is_count_of (Some 16383) size (item_count ds)) ∷ [])
  demands p (container rows) d =
      let ds = items_in (as_array d) in
      shape p (is_some (as_array d)) ∷ (each_demand (λ i e. element_demands p (λ inside id ms. row_demands inside rows id ms) e) 0 ds
      ++ range p (are_in_order (slots (rows_of rows)) (slots (rows_of rows)) ds && nat_lt (item_count ds) 65536) ∷ [])
  demands p (pdu procedures) d =
      let ms = members_in (as_object d) in
      shape p (is_some (as_object d)) ∷ (message_demands p (λ inside index code body. body_demands inside procedures index code body) ms (outcome_in outcomes 0 ms) ++ only_member p ms)

  pub component_demands : Path → NamedParts → Members → List Demand
  component_demands p no_parts ms = []
  component_demands p (part name optional t others) ms =
      let inside = ways.component name ∷ p in
      if_there (λ d. demands inside t d) (get_member name ms) (shape inside optional ∷ []) ++ component_demands p others ms

  -- those with names first, null for one that isn't there
  pub each_added : Path → NamedParts → Items → List Demand
  each_added p no_parts ds = raw_each p ds
  each_added p (part name optional t others) no_items = []
  each_added p (part name optional t others) (item d ds) =
      (if is_null d then [] else demands (ways.component name ∷ p) t d) ++ each_added p others ds

  pub open_demands : Path → NamedParts → Items → List Demand
  open_demands p no_parts ds = []
  open_demands p (part name optional t others) no_items = []
  open_demands p (part name optional t others) (item d ds) =
      let inside = ways.component name ∷ p in
      (if is_null d then [] else range inside (fits_open inside t d) ∷ []) ++ open_demands p others ds

  -- the first alternative that is a member, and that it is the only one
  pub alternative_demands : Path → NamedParts → Members → Option (List Demand)
  alternative_demands p no_parts ms = None
  alternative_demands p (part name optional t others) ms =
      first_of (on_members (λ d. demands (ways.component name ∷ p) t d ++ only_member p ms) (get_member name ms)) (alternative_demands p others ms)

  pub addition_demands : Path → NamedParts → Members → Option (List Demand)
  addition_demands p no_parts ms = None
  addition_demands p (part name optional t others) ms =
      let inside = ways.component name ∷ p in
      first_of (on_members (λ d. demands inside t d ++ (only_member p ms ++ range inside (fits_open inside t d) ∷ [])) (get_member name ms))
      (addition_demands p others ms)

  pub row_demands : Path → NamedRows → ℕ → Members → List Demand
  row_demands inside no_rows id ms = raw_member inside element_keys ms
  row_demands inside (row other mandatory t others) id ms = if other == id
      then known_member inside element_keys ms t (demands inside t (member_of value_key ms))
      else row_demands inside others id ms

  pub body_demands : Path → NamedProcedures → ℕ → ℕ → Members → List Demand
  body_demands inside no_procedures index code ms = raw_member inside body_keys ms
  body_demands inside (procedure other initiating successful unsuccessful others) index code ms = if other == code
      then (if index == 0 then outcome_demands inside initiating ms
      else (if index == 1 then outcome_demands inside successful ms else outcome_demands inside unsuccessful ms))
      else body_demands inside others index code ms

  pub outcome_demands : Path → NamedOutcome → Members → List Demand
  outcome_demands inside no_outcome ms = raw_member inside body_keys ms
  outcome_demands inside (outcome t) ms = known_member inside body_keys ms t (demands inside t (member_of value_key ms))
