-- Internal: what an information element or a message has besides its number and its criticality, and how its object is begun.
use Rattle.std.specs.Prelude.{ℕ, List, [], ◌∷◌, Bool, true, false, decimal}
use Rattle.json.specs.Token as json
use Rattle.json.specs.Token.{Token}
use Rattle.serde_json.specs.Data.{Data, Members, no_members, member}
use Rattle.json_defs.specs.Members.{Text, criticality_key, criticalities, value_key, raw_key}
use Rattle.json_defs.specs.shown_defs.Printed.{known_shown, name_at}

abbrev pub contents_key : Bool → Text
contents_key true = value_key
contents_key false = raw_key

-- contents that are known, or octets
abbrev pub contents_as : Bool → Data → Members
contents_as true d = known_shown d
contents_as false d = member raw_key d no_members

-- what comes before the contents
abbrev pub body_begins : Text → ℕ → ℕ → Bool → List Token
body_begins key n criticality known =
    json.begin_object ∷ json.key criticality_key ∷ json.string (name_at criticalities criticality) ∷ json.key key
    ∷ json.number (decimal n) ∷ json.key (contents_key known) ∷ []
