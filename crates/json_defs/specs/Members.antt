-- Words on JSON: what a value of it is, and the members of an object. Texts are octets (UTF-8).
use Rattle.std.specs.Prelude.{ℕ, suc, ◌==◌, ◌&&◌, List, [], ◌∷◌, Bool, true, false, Option, Some, None, is_some, codes, if◌then◌else◌, ℤ, pos, negsuc}
use Rattle.std.specs.Ordering.{nat_cmp, eq_by_cmp}
use Rattle.std.specs.Cmp.Lexicographic.{slice_cmp}
use Rattle.gnb_types.specs.Hex.{read_hex}
use Rattle.serde_json.specs.Data.{Num, Data, null, string, Items, no_items, item, Members, no_members, member}
use Rattle.serde_json.specs.Find.{get_member, as_integer, as_number, as_str}

abbrev pub Text : Type 0
Text = List ℕ

-- a number that is neither a fraction nor too great for 64 bits
abbrev pub whole_in : Option Num → Option ℤ
whole_in None = None
whole_in (Some n) = as_integer n

abbrev pub integer_in : Data → Option ℤ
integer_in d = whole_in (as_number d)

-- one that is at least 0
abbrev pub natural_of : Option ℤ → Option ℕ
natural_of None = None
natural_of (Some (pos n)) = Some n
natural_of (Some (negsuc n)) = None

abbrev pub natural_in : Data → Option ℕ
natural_in d = natural_of (integer_in d)

-- the octets that a text of hexadecimal digits stands for
abbrev pub octets_of : Option Text → Option (List ℕ)
octets_of None = None
octets_of (Some s) = read_hex s

abbrev pub octets_in : Data → Option (List ℕ)
octets_in d = octets_of (as_str d)

-- the bits of a text of 0 and 1
abbrev pub bit_of : ℕ → Option Bool
bit_of c = if c == 48 then Some false else (if c == 49 then Some true else None)

abbrev pub bit_before : Option Bool → Option (List Bool) → Option (List Bool)
bit_before (Some b) (Some bs) = Some (b ∷ bs)
bit_before (Some b) None = None
bit_before None bs = None

abbrev pub read_bits : Text → Option (List Bool)
read_bits [] = Some []
read_bits (c ∷ text) = bit_before (bit_of c) (read_bits text)

abbrev pub bits_of : Option Text → Option (List Bool)
bits_of None = None
bits_of (Some s) = read_bits s

abbrev pub bits_in : Data → Option (List Bool)
bits_in d = bits_of (as_str d)

-- the place of a name among names, the first where one is given twice
abbrev pub same_text : Text → Text → Bool
same_text a b = eq_by_cmp (slice_cmp nat_cmp) a b

abbrev pub place_in : List Text → Text → ℕ → Option ℕ
place_in [] name i = None
place_in (n ∷ names) name i = if same_text n name then Some i else place_in names name (suc i)

abbrev pub is_among : List Text → Text → Bool
is_among names name = is_some (place_in names name 0)

-- ---- members and items

abbrev pub members_in : Option Members → Members
members_in None = no_members
members_in (Some ms) = ms

abbrev pub items_in : Option Items → Items
items_in None = no_items
items_in (Some ds) = ds

abbrev pub member_count : Members → ℕ
member_count no_members = 0
member_count (member k d ms) = suc (member_count ms)

abbrev pub item_count : Items → ℕ
item_count no_items = 0
item_count (item d ds) = suc (item_count ds)

-- the value of a member, null where there is none
abbrev pub or_null : Option Data → Data
or_null None = null
or_null (Some d) = d

abbrev pub member_of : Text → Members → Data
member_of name ms = or_null (get_member name ms)

abbrev pub has_member : Text → Members → Bool
has_member name ms = is_some (get_member name ms)

-- all keys are among these
abbrev pub are_keys_among : List Text → Members → Bool
are_keys_among names no_members = true
are_keys_among names (member k d ms) = is_among names k && are_keys_among names ms

abbrev pub is_null : Data → Bool
is_null null = true
is_null d = false

-- ---- the keys that JSON of values has

abbrev pub dots : Text
dots = codes "..."

abbrev pub unknown_key : Text
unknown_key = codes "unknown"

abbrev pub id_key : Text
id_key = codes "id"

abbrev pub criticality_key : Text
criticality_key = codes "criticality"

abbrev pub code_key : Text
code_key = codes "procedureCode"

abbrev pub value_key : Text
value_key = codes "value"

abbrev pub raw_key : Text
raw_key = codes "raw"

abbrev pub criticalities : List Text
criticalities = codes "reject" ∷ codes "ignore" ∷ codes "notify" ∷ []

abbrev pub outcomes : List Text
outcomes = codes "initiatingMessage" ∷ codes "successfulOutcome" ∷ codes "unsuccessfulOutcome" ∷ []

abbrev pub criticality_in : Data → Option ℕ
criticality_in (string s) = place_in criticalities s 0
criticality_in d = None
