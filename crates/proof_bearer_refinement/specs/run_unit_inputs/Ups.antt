-- What happens to a CU-UP, as orders of one bearer.
use Rattle.std.specs.Prelude.{◌≡◌, if◌then◌else◌, List, [], ◌∷◌, ◌++◌, map, Option, Some}
use Rattle.std.specs.Ordering.{eq_by_cmp}
use Rattle.gnb_types.specs.declared.names.UeId.{UeId}
use Rattle.gnb_types.specs.declared.names.BearerId.{BearerId}
use Rattle.gnb_types.specs.Orders.{ue_cmp}
use Rattle.message_types.specs.declared.rrc.Token.{Token}
use Rattle.unit_defs.specs.Ways.{Message, Pdu, Answer, gives, spent, ◌then◌, nothing}
use Rattle.unit_defs.specs.CuUp.{cu_up_acts}
use Rattle.unit_defs.specs.Static.{cu_up_context}
use Rattle.run_defs.specs.Runs.{Plain, plain_way}
use Rattle.proof_cu_up_orders.specs.context_orders.Orders.{CuUpModel, model_in, ContextStep, carried_out}
use Rattle.proof_cu_up_orders.specs.context_orders.Inputs.{orders_of}
use Rattle.proof_bearer_refinement.specs.run_unit_inputs.Happenings.{Happening, places, counts, takes, CuUpRecord, after_up}

-- an order; or the terminal is set up without messages, and the bearer is this then
pub data UpChange : Type 0 where
  asks : (order : ContextStep Pdu) → UpChange
  sets_up : (part : Option CuUpModel) → UpChange

abbrev pub change_does : UeId → BearerId → UpChange → Option CuUpModel → Answer (Message Token) Pdu (Option CuUpModel)
change_does ue bearer (asks order) p = carried_out plain_way ue bearer order p
change_does ue bearer (sets_up part) p = nothing part

abbrev pub all_carried : UeId → BearerId → List UpChange → Option CuUpModel → Answer (Message Token) Pdu (Option CuUpModel)
all_carried ue bearer [] p = nothing p
all_carried ue bearer (change ∷ changes) p = change_does ue bearer change p then all_carried ue bearer changes

abbrev pub changes_if : Plain CuUpRecord → List UpChange → List UpChange
changes_if (gives outputs v) changes = changes
changes_if (spent counter) changes = []

abbrev pub up_change : UeId → BearerId → CuUpRecord → Happening → List UpChange
up_change ue bearer r (places plan teid) =
    if eq_by_cmp ue_cmp ue plan.ue then sets_up (model_in ue bearer (Some (cu_up_context r plan teid))) ∷ [] else []
up_change ue bearer r counts = []
up_change ue bearer r (takes input) = changes_if (cu_up_acts plain_way r input) (map (λ order. asks order) (orders_of plain_way r ue bearer input))

unfoldable pub up_changes : UeId → BearerId → CuUpRecord → List Happening → List UpChange
up_changes ue bearer r [] = []
up_changes ue bearer r (h ∷ hs) = up_change ue bearer r h ++ up_changes ue bearer (after_up r h) hs

-- no order ends for a counter that is spent, and this is left
abbrev pub IsLeft : Option CuUpModel → Answer (Message Token) Pdu (Option CuUpModel) → Type 0
IsLeft part (gives outputs p) = p ≡ part
IsLeft part (spent counter) = ⊥
