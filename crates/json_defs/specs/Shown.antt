-- Which JSON shows a value of a type, as a relation by the forms of types. Whether the value is within the bounds of its type is not
-- asked here: `Has` says it of the value.
use Rattle.std.specs.Prelude.{◌≡◌, ℕ, zero, suc, ◌+◌, ◌-◌, ◌==◌, List, [], ◌∷◌, ◌++◌, length, Bool, true, false, Option, Some, None, nat_lt, nat_le}
use Rattle.serde_json.specs.Data.{Data, null, boolean as truth_value, string, array, object, Items, no_items, item, Members, no_members, member}
use Rattle.serde_json.specs.Find.{get_member}
use Rattle.aper_defs.specs.Values.{Value, Values, Options, Ies, has_options}
use Rattle.aper_defs.specs.Values.{truth, number, enumeral, bits, octets, text, components, chosen, list, elements, message, raw, no_values, value, no_options, absent, present, no_ies, ie}
use Rattle.aper_defs.specs.Membership.{Either}
use Rattle.json_defs.specs.Named.{Name, Named, NamedParts, NamedRows, NamedProcedures, NamedOutcome}
use Rattle.json_defs.specs.Named.{boolean, integer, enumerated, bit_string, octet_string, printable_string, sequence, choice, sequence_of, container, pdu, no_parts, part, no_rows, row, no_procedures, procedure, no_outcome, outcome}
use Rattle.json_defs.specs.Members.{Text, integer_in, natural_in, octets_in, bits_in, place_in, are_keys_among, is_null, dots, unknown_key, id_key, criticality_key, code_key, value_key, raw_key, criticality_in, outcomes}

abbrev pub count_of : NamedParts → ℕ
count_of no_parts = 0
count_of (part name optional t others) = suc (count_of others)

abbrev pub names_of : NamedParts → List Name
names_of no_parts = []
names_of (part name optional t others) = name ∷ names_of others

-- the keys that an object of a SEQUENCE may have
abbrev pub keys_of : Bool → NamedParts → List Text
keys_of true root = dots ∷ names_of root
keys_of false root = names_of root

-- a member is there, and this holds of it
abbrev pub IsMember : Option Data → (Data → Type 0) → Type 0
IsMember None P = ⊥
IsMember (Some d) P = P d

-- it is an object, and this holds of its members
abbrev pub IsObject : Data → (Members → Type 0) → Type 0
IsObject (object ms) P = P ms
IsObject d P = ⊥

-- octets of what isn't known, as a text of hexadecimal digits
abbrev pub ShowsRaw : Data → Value → Type 0
ShowsRaw d (raw os) = octets_in d ≡ Some os
ShowsRaw d v = ⊥

-- what comes after the last that has a name: its number from there on, and its octets
abbrev pub ShowsPast : Data → ℕ → Value → Type 0
ShowsPast (array (item n (item d no_items))) past v = (natural_in n ≡ Some past) × ShowsRaw d v
ShowsPast d past v = ⊥

-- a name that has a place stands for what has this number, and `...` for what is past them, where the type is extensible
abbrev pub IsPlaced : Option ℕ → ℕ → Type 0 → Type 0 → Type 0
IsPlaced None i Known Past = Past
IsPlaced (Some place) i Known Past = (i ≡ place) × Known

abbrev pub IsPast : Bool → Text → ℕ → ℕ → Type 0
IsPast extensible key known i = (extensible ≡ true) × (key ≡ dots) × (nat_le known i ≡ true)

-- an ENUMERATED: a name, or how far past the last name
abbrev pub ShowsName : List Name → Bool → Data → ℕ → Type 0
ShowsName names extensible (string s) i = place_in names s 0 ≡ Some i
ShowsName names extensible (object (member k d no_members)) i =
    (k ≡ unknown_key) × (extensible ≡ true) × (nat_le (length names) i ≡ true) × (natural_in d ≡ Some (i - length names))
ShowsName names extensible d i = ⊥

abbrev pub EachShown : (Data → Value → Type 0) → Items → Values → Type 0
EachShown P no_items no_values = Unit {0}
EachShown P (item d ds) (value v vs) = P d v × EachShown P ds vs
EachShown P ds vs = ⊥

-- the additions past those that have names
abbrev pub RawShown : Items → Options → Type 0
RawShown no_items no_options = Unit {0}
RawShown (item null ds) (absent more) = RawShown ds more
RawShown (item d ds) (present v more) = ShowsRaw d v × RawShown ds more
RawShown ds more = ⊥

-- where the object has additions they are these, and at least one is told; else there are none
abbrev pub AreShown : Option Data → (Items → Options → Type 0) → Options → Type 0
AreShown None P more = has_options more ≡ false
AreShown (Some (array ds)) P more = (has_options more ≡ true) × P ds more
AreShown (Some d) P more = ⊥

-- what an information element and the body of a message have besides their contents
abbrev pub HasCriticality : Members → ℕ → Type 0
HasCriticality ms criticality = IsMember (get_member criticality_key ms) (λ d. criticality_in d ≡ Some criticality)

abbrev pub HasNatural : Text → Members → ℕ → Type 0
HasNatural key ms n = IsMember (get_member key ms) (λ d. natural_in d ≡ Some n)

abbrev pub HasRaw : List Text → Members → Value → Type 0
HasRaw keys ms v = IsMember (get_member raw_key ms) (λ d. ShowsRaw d v) × (are_keys_among (raw_key ∷ keys) ms ≡ true)

-- the members of an information element, and of a message's body, without `value` and `raw`
abbrev pub element_keys : List Text
element_keys = criticality_key ∷ id_key ∷ []

abbrev pub body_keys : List Text
body_keys = criticality_key ∷ code_key ∷ []

abbrev pub EachElement : (ℕ → Members → Value → Type 0) → Items → Ies → Type 0
EachElement P no_items no_ies = Unit {0}
EachElement P (item (object ms) ds) (ie id criticality v others) =
    HasNatural id_key ms id × HasCriticality ms criticality × P id ms v × EachElement P ds others
EachElement P ds ies = ⊥

unfoldable mutual
  pub Shows : Named → Data → Value → Type 0
  Shows boolean (truth_value b) (truth c) = b ≡ c
  Shows (integer low high extensible) d (number z) = integer_in d ≡ Some z
  Shows (enumerated root additions extensible) d (enumeral i) = ShowsName (root ++ additions) extensible d i
  Shows (bit_string size) d (bits bs) = bits_in d ≡ Some bs
  Shows (octet_string size) d (octets os) = octets_in d ≡ Some os
  Shows (printable_string size) (string s) (text cs) = s ≡ cs
  Shows (sequence extensible root additions) (object ms) (components vs more) =
      ShowsComponents root ms vs
      × Either extensible (AreShown (get_member dots ms) (ShowsAdditions additions) more) (has_options more ≡ false)
      × (are_keys_among (keys_of extensible root) ms ≡ true)
  Shows (choice extensible root additions) (object (member key d no_members)) (chosen i v) =
      IsPlaced (place_in (names_of root ++ names_of additions) key 0) i
      (Either (nat_lt i (count_of root)) (ShowsPart root d i v) (ShowsPart additions d (i - count_of root) v))
      (IsPast extensible key (count_of root + count_of additions) i × ShowsPast d (i - (count_of root + count_of additions)) v)
  Shows (sequence_of size t) (array ds) (list vs) = EachShown (λ d v. Shows t d v) ds vs
  Shows (container rows) (array ds) (elements ies) = EachElement (λ id ms v. ShowsRow rows id ms v) ds ies
  Shows (pdu procedures) (object (member key d no_members)) (message index code criticality v) =
      Either (nat_lt index 3) ((place_in outcomes key 0 ≡ Some index)
      × IsObject d (λ ms. HasNatural code_key ms code × HasCriticality ms criticality × ShowsBody procedures ms index code v))
      ((key ≡ dots) × ShowsPast d (index - 3) v × (code ≡ 0) × (criticality ≡ 0))
  Shows t d v = ⊥

  pub ShowsComponents : NamedParts → Members → Options → Type 0
  ShowsComponents no_parts ms no_options = Unit {0}
  ShowsComponents (part name optional t others) ms (absent vs) = (get_member name ms ≡ None) × ShowsComponents others ms vs
  ShowsComponents (part name optional t others) ms (present v vs) =
      IsMember (get_member name ms) (λ d. Shows t d v) × ShowsComponents others ms vs
  ShowsComponents parts ms vs = ⊥

  pub ShowsAdditions : NamedParts → Items → Options → Type 0
  ShowsAdditions no_parts ds more = RawShown ds more
  ShowsAdditions (part name optional t others) no_items no_options = Unit {0}
  ShowsAdditions (part name optional t others) (item d ds) (absent more) = (d ≡ null) × ShowsAdditions others ds more
  ShowsAdditions (part name optional t others) (item d ds) (present v more) =
      (is_null d ≡ false) × Shows t d v × ShowsAdditions others ds more
  ShowsAdditions parts ds more = ⊥

  -- a value of the part with this number
  pub ShowsPart : NamedParts → Data → ℕ → Value → Type 0
  ShowsPart no_parts d i v = ⊥
  ShowsPart (part name optional t others) d zero v = Shows t d v
  ShowsPart (part name optional t others) d (suc i) v = ShowsPart others d i v

  -- the body of an information element: that of its row, or raw
  pub ShowsRow : NamedRows → ℕ → Members → Value → Type 0
  ShowsRow no_rows id ms v = HasRaw element_keys ms v
  ShowsRow (row other mandatory t others) id ms v = Either (other == id)
      (IsMember (get_member value_key ms) (λ d. Shows t d v) × (are_keys_among (value_key ∷ element_keys) ms ≡ true))
      (ShowsRow others id ms v)

  -- the body of a message: that of its procedure, or raw
  pub ShowsBody : NamedProcedures → Members → ℕ → ℕ → Value → Type 0
  ShowsBody no_procedures ms index code v = HasRaw body_keys ms v
  ShowsBody (procedure other initiating successful unsuccessful others) ms index code v = Either (other == code)
      (Either (index == 0) (ShowsOutcome initiating ms v)
      (Either (index == 1) (ShowsOutcome successful ms v) (ShowsOutcome unsuccessful ms v)))
      (ShowsBody others ms index code v)

  pub ShowsOutcome : NamedOutcome → Members → Value → Type 0
  ShowsOutcome no_outcome ms v = HasRaw body_keys ms v
  ShowsOutcome (outcome t) ms v =
      IsMember (get_member value_key ms) (λ d. Shows t d v) × (are_keys_among (value_key ∷ body_keys) ms ≡ true)
