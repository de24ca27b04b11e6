-- What contracts see of a value.
use Rattle.std.specs.Prelude.{List, [], ◌∷◌, map, Option, Some, None, option_map}
use Rattle.aper_defs.specs.Values as seen
use Rattle.aper_values.specs.declared.value.Element.{Element}
use Rattle.aper_values.specs.declared.value.Value.{Value, fold-Value}
use Rattle.aper_values.specs.declared.value.Value.TheOpen.{Value-F}

abbrev pub values_of : List seen.Value → seen.Values
values_of [] = seen.no_values
values_of (v ∷ vs) = seen.value v (values_of vs)

abbrev pub options_of : List (Option seen.Value) → seen.Options
options_of [] = seen.no_options
options_of (None ∷ vs) = seen.absent (options_of vs)
options_of (Some v ∷ vs) = seen.present v (options_of vs)

abbrev pub ies_of : List (Element seen.Value) → seen.Ies
ies_of [] = seen.no_ies
ies_of (e ∷ es) = seen.ie e.id e.criticality e.body (ies_of es)

-- one level, with each value inside already seen
abbrev pub view_step : Value-F seen.Value → seen.Value
view_step (Value-F.Bool b) = seen.truth b
view_step (Value-F.Int z) = seen.number z
view_step (Value-F.Enum i) = seen.enumeral i
view_step (Value-F.Bits bs) = seen.bits bs
view_step (Value-F.Octets os) = seen.octets os
view_step (Value-F.Text cs) = seen.text cs
view_step (Value-F.Seq root additions) = seen.components (options_of root.items) (options_of additions.items)
view_step (Value-F.Choice index body) = seen.chosen index body.value
view_step (Value-F.List members) = seen.list (values_of members.items)
view_step (Value-F.Ies ies) = seen.elements (ies_of ies.items)
view_step (Value-F.Pdu outcome code criticality body) = seen.message outcome code criticality body.value
view_step (Value-F.Raw os) = seen.raw os

abbrev pub view : Value → seen.Value
view = fold-Value seen.Value view_step

abbrev pub values_view : List Value → seen.Values
values_view vs = values_of (map view vs)

abbrev pub options_view : List (Option Value) → seen.Options
options_view vs = options_of (map (option_map view) vs)

abbrev pub element_view : Element Value → Element seen.Value
element_view e = record { id = e.id; criticality = e.criticality; body = view e.body }

abbrev pub ies_view : List (Element Value) → seen.Ies
ies_view es = ies_of (map element_view es)
