-- The elements that code puts one after another are those of the table, each where it is there.
use Rattle.std.proofs.Common.{◌≡◌, ◌++◌, ◌∷◌, [], List, Option, Some, None, option_map, refl, ap, ◌∙◌}
use Rattle.std.specs.List.{flat_map}
use Rattle.aper_defs.specs.Values.{Value, Ies, no_ies}
use Rattle.aper_values.specs.declared.value.Element.{Element}
use Rattle.aper_values.specs.declared.value.Value.{Value as CodeValue}
use Rattle.aper_values.specs.Views.{view, ies_of}
use Rattle.message_defs.specs.Places.{put_element}
use Rattle.message_values.specs.declared.elements.ElementName.{ElementName}
use Rattle.message_values.specs.Elements.{element_named}
use Rattle.message_values.specs.Written.{one_if_there, put_one, put_all}

pub put_next : (which : ElementName) (content : Option Value) (others : List (Element Value))
    → ies_of (one_if_there which content ++ others) ≡ put_element (element_named which) content (ies_of others)
put_next which None others = refl
put_next which (Some v) others = refl

-- as the definitions put them
abbrev pub given : List (ElementName × Option CodeValue) → Ies
given [] = no_ies
given (field ∷ fields) = put_element (element_named field.0) (option_map view field.1) (given fields)

pub all_put : (fields : List (ElementName × Option CodeValue)) → put_all fields ≡ given fields
all_put [] = refl
all_put (field ∷ fields) =
    put_next field.0 (option_map view field.1) (flat_map put_one fields)
    ∙ ap (put_element (element_named field.0) (option_map view field.1)) (all_put fields)
