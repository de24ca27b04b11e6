-- Internal: the JSON of what a row or a name gives a type, or of octets; that of a SEQUENCE; and members that are written in the middle of an object.
use Rattle.std.specs.Prelude.{◌≡◌, ℕ, List, [], ◌∷◌, ◌++◌, get_or, Bool, if◌then◌else◌, Option, Some, None}
use Rattle.json.specs.Token as json
use Rattle.json.specs.Token.{Token}
use Rattle.json.specs.Written.{Written}
use Rattle.serde_json.specs.Data.{Data, null, array, object, Items, Members, no_members}
use Rattle.asn1_syntax.specs.declared.types.definition.Component.{Component}
use Rattle.asn1_syntax.specs.declared.types.definition.Extensible.{Extensible}
use Rattle.asn1_syntax.specs.declared.types.definition.TypeId.{TypeId}
use Rattle.asn1_syntax.specs.types.Members.{additions_of}
use Rattle.aper_defs.specs.Values.{Value, Options}
use Rattle.aper_values.specs.declared.value.Value as values
use Rattle.aper_values.specs.Views.{view}
use Rattle.aper_fields.specs.members.Rows.{part_type}
use Rattle.json_defs.specs.Named.{Named}
use Rattle.json_defs.specs.Members.{dots}
use Rattle.json_defs.specs.shown_defs.Printed.{raw_shown, shown_as, with_additions, added_shown, components_shown}
use Rattle.values_json.specs.tokens.Whole.{AreMembersWhole}
use Rattle.values_json.specs.tokens.Written.{tokens_of, tokens_of_members, Adds}
use Rattle.values_json.specs.order.Listed.{dots_first}
use Rattle.json_defs.specs.type_defs.Types.{parts_with}

abbrev pub inside_shown : (ℕ → Named) → Option TypeId → Value → Data
inside_shown of None v = raw_shown v
inside_shown of (Some id) v = shown_as (of id.number) v

-- an addition, null where it isn't there
abbrev pub added_one : (ℕ → Named) → Option TypeId → Option values.Value → Data
added_one of id None = null
added_one of id (Some v) = inside_shown of id (view v)

-- the component at a place
abbrev pub place_shown : (ℕ → Named) → List Component → List (Option values.Value) → ℕ → Data
place_shown of ps vs i = added_one of (part_type i ps) (get_or vs i None)

abbrev pub sequence_shown : (ℕ → Named) → Extensible Component → Options → Options → Data
sequence_shown of members root more = object
    (with_additions more (added_shown (parts_with of (additions_of members.additions)) more) (components_shown (parts_with of members.root) root))

-- the beginning of an object, with the list of additions where there are some
abbrev pub object_begins : Bool → Items → List Token
object_begins has ds = json.begin_object ∷ (if has then json.key dots ∷ tokens_of (array ds) else [])

abbrev pub BeginsObject : Bool → Items → Written → Written → Type 0
BeginsObject has ds old new = Adds (object_begins has ds) old new × AreMembersWhole (dots_first has ds no_members)

-- these members are added; what they lack of an object's tokens is its end
abbrev pub Lists : Members → Written → Written → Type 0
Lists ms old new =
    (new.before ≡ old.before) × (new.tokens ++ json.end_object ∷ [] ≡ old.tokens ++ tokens_of_members ms) × AreMembersWhole ms
