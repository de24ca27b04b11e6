-- Internal: the terminals that have a tick.
use Rattle.std.specs.Prelude.{◌==◌, List, [], ◌∷◌, if◌then◌else◌}
use Rattle.std.specs.List.{list_any, flat_map}
use Rattle.gnb_types.specs.declared.names.NodeId.{NodeId}
use Rattle.gnb_types.specs.declared.names.NodeId.TheVariants.{Ue}
use Rattle.gnb_types.specs.declared.names.UeId.{UeId}

-- those that aren't among the ones that are gone
abbrev pub nodes_there : List UeId → List UeId → List NodeId
nodes_there gone ues = flat_map (λ ue. if list_any (λ u. u.0 == ue.0) gone then [] else Ue ue.0 ∷ []) ues
