-- What happens to a DU, as changes of one bearer.
use Rattle.std.specs.Prelude.{if◌then◌else◌, List, [], ◌∷◌, Option, Some}
use Rattle.std.specs.Ordering.{eq_by_cmp}
use Rattle.gnb_types.specs.declared.names.UeId.{UeId}
use Rattle.gnb_types.specs.declared.names.BearerId.{BearerId}
use Rattle.gnb_types.specs.Orders.{ue_cmp}
use Rattle.unit_defs.specs.Ways.{gives, spent}
use Rattle.unit_defs.specs.Du.{du_acts}
use Rattle.unit_defs.specs.Static.{du_context}
use Rattle.run_defs.specs.Runs.{Plain, plain_way}
use Rattle.proof_node_orders.specs.du_inputs.Changes.{DuModel, model_in, Change, stays, sets_up, changed, change_by}
use Rattle.proof_bearer_refinement.specs.run_unit_inputs.Happenings.{Happening, places, counts, takes, DuRecord, after_du}

abbrev pub change_if : Plain DuRecord → Change → Change
change_if (gives outputs v) change = change
change_if (spent counter) change = stays

abbrev pub du_change : UeId → BearerId → DuRecord → Happening → Change
du_change ue bearer r (places plan teid) = if eq_by_cmp ue_cmp ue plan.ue then sets_up (model_in bearer (Some (du_context r plan teid))) else stays
du_change ue bearer r counts = stays
du_change ue bearer r (takes input) = change_if (du_acts plain_way r input) (change_by plain_way ue bearer r input)

unfoldable pub du_changes : UeId → BearerId → DuRecord → List Happening → List Change
du_changes ue bearer r [] = []
du_changes ue bearer r (h ∷ hs) = du_change ue bearer r h ∷ du_changes ue bearer (after_du r h) hs

unfoldable pub after_changes : Option DuModel → List Change → Option DuModel
after_changes d [] = d
after_changes d (change ∷ changes) = after_changes (changed change d) changes
