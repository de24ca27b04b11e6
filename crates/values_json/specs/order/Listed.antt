-- The members of the object of a SEQUENCE: as they come, and those of a map by their names.
use Rattle.std.specs.Prelude.{◌≡◌, ℕ, ◌<◌, List, [], ◌∷◌, length, get_or, Option, Some, Bool, if◌then◌else◌}
use Rattle.std.specs.Borrow.{Bor}
use Rattle.serde_json.specs.Data.{Data, array, Items, Members, no_members, member, put}
use Rattle.asn1_syntax.specs.declared.types.definition.Component.{Component}
use Rattle.aper_values.specs.declared.value.Value.{Value}
use Rattle.aper_values.specs.Views.{view}
use Rattle.aper_defs.specs.Values.{Options, no_options, absent, present}
use Rattle.json_defs.specs.Named.{Named, NamedParts, no_parts, part}
use Rattle.json_defs.specs.Members.{Text, dots}
use Rattle.json_defs.specs.shown_defs.Printed.{shown_as}
use Rattle.values_json.specs.declared.order.Member.{Member}
use Rattle.values_json.specs.declared.order.Member.TheVariants as members

-- the components that are there, in the order in which they come
abbrev pub listed : NamedParts → Options → Members
listed no_parts vs = no_members
listed (part name optional t others) no_options = no_members
listed (part name optional t others) (absent vs) = listed others vs
listed (part name optional t others) (present v vs) = member name (shown_as t v) (listed others vs)

-- the additions among members in the order of their names
abbrev pub with_dots : Bool → Items → Members → Members
with_dots has ds ms = if has then put dots (array ds) ms else ms

-- the additions before other members
abbrev pub dots_first : Bool → Items → Members → Members
dots_first has ds ms = if has then member dots (array ds) ms else ms

-- what is there at each place is what the component there is printed as, where it is there
abbrev pub AreComponents : (ℕ → Named) → List Component → List (Option Value) → (ℕ → Data) → Type 0
AreComponents of ps vs at = (i : ℕ) (q : Component) (v : Value) → i < length ps → q ≡ get_or ps i q → i < length vs → Some v ≡ get_or vs i (Some v)
    → at i ≡ shown_as (of q.definition.number) (view v)

-- what a member is printed as, by what there is at each place; ds is the list of additions
abbrev pub member_shown : (ℕ → Data) → Items → Member → Data
member_shown at ds (members.Component i) = at i
member_shown at ds members.Additions = array ds

-- the places are below n
abbrev pub IsWithin : ℕ → Member → Type 0
IsWithin n (members.Component i) = i < n
IsWithin n members.Additions = Unit {0}

abbrev pub AreWithin : ℕ → List (Bor Text × Member) → Type 0
AreWithin n [] = Unit {0}
AreWithin n (e ∷ entries) = IsWithin n e.1 × AreWithin n entries

-- the members of a map
abbrev pub by_name : (ℕ → Data) → Items → List (Bor Text × Member) → Members
by_name at ds [] = no_members
by_name at ds (e ∷ entries) = member e.0.now (member_shown at ds e.1) (by_name at ds entries)
