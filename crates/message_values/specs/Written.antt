-- The elements of a message in the order in which they are given, each where it is there.
use Rattle.std.specs.Prelude.{ℕ, List, [], ◌∷◌, Option, Some, None, option_map}
use Rattle.std.specs.List.{flat_map}
use Rattle.aper_defs.specs.Values as seen
use Rattle.aper_defs.specs.Values.{components, elements, message, no_options, present}
use Rattle.aper_values.specs.declared.value.Element.{Element}
use Rattle.aper_values.specs.declared.value.Value.{Value}
use Rattle.aper_values.specs.Views.{view, ies_of}
use Rattle.message_values.specs.declared.elements.ElementName.{ElementName}
use Rattle.message_values.specs.Elements.{element_named}

-- with criticality reject
abbrev pub one_if_there : ElementName → Option seen.Value → List (Element seen.Value)
one_if_there _ None = []
one_if_there which (Some v) = (record { id = (element_named which).id; criticality = 0; body = v }) ∷ []

abbrev pub put_one : ElementName × Option Value → List (Element seen.Value)
put_one field = one_if_there field.0 (option_map view field.1)

abbrev pub put_all : List (ElementName × Option Value) → seen.Ies
put_all fields = ies_of (flat_map put_one fields)

-- a message with these elements and additions
abbrev pub message_of : (code outcome : ℕ) → seen.Ies → seen.Options → seen.Value
message_of code outcome ies additions = message outcome code 0 (components (present (elements ies) no_options) additions)
