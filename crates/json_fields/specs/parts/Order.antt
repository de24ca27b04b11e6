-- The order of information elements by their ids alone.
use Rattle.std.specs.Prelude.{ℕ, ◌==◌, ◌&&◌, List, [], ◌∷◌, map, Bool}
use Rattle.aper_defs.specs.Trees.{Slot, slots_left, mandatory_count}
use Rattle.aper_values.specs.declared.value.Element.{Element}
use Rattle.aper_values.specs.declared.value.Value.{Value}
use Rattle.json_defs.specs.Demands.{is_next}

abbrev pub ids_of : List (Element Value) → List ℕ
ids_of es = map (λ e. e.id) es

abbrev pub are_ids_in_order : List Slot → List Slot → List ℕ → Bool
are_ids_in_order known left [] = mandatory_count left == 0
are_ids_in_order known left (id ∷ ids) = is_next known left id && are_ids_in_order known (slots_left known id left) ids
