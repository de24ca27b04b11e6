-- What each input of a DU puts for one bearer on an uplink tunnel.
use Rattle.std.specs.Prelude.{◌≡◌, if◌then◌else◌, List, [], Some}
use Rattle.gnb_types.specs.declared.names.UeId.{UeId}
use Rattle.gnb_types.specs.declared.names.BearerId.{BearerId}
use Rattle.gnb_types.specs.declared.names.Dir.TheVariants.{Dl, Ul}
use Rattle.gnb_types.specs.Orders.{bearer_cmp}
use Rattle.tables.specs.Tables.{IsSorted}
use Rattle.unit_defs.specs.Ways.{Pdu, uplink, Input, radio_input, confirm_input, Way}
use Rattle.unit_defs.specs.Du.{Du, DuContext, context_of}
use Rattle.proof_node_orders.specs.du_inputs.Changes.{model_of, change_by}
use Rattle.proof_node_orders.specs.du_inputs.Puts.{OnTunnel, is_of, on_uplink, of_number, of_change, of_model}

-- no two bearers of the terminal's context have one name
abbrev pub IsInOrder : {M C : Type 0} → Du M C → UeId → Type 0
IsInOrder r ue = (c : DuContext) → context_of r ue ≡ Some c → IsSorted bearer_cmp c.bearers

-- A PDU of the bearer's radio goes up; of one that was confirmed there the number is told; of all else what its change puts: a delivery
-- status of a frame, an End Marker where the context ends.
unfoldable pub ups_by : {M C : Type 0} → Way M C Pdu → UeId → BearerId → Du M C → Input C Pdu → List OnTunnel
ups_by way ue bearer r (radio_input other q Ul pdu content) =
    of_model (λ d. if is_of ue bearer other q then on_uplink d (uplink pdu) else []) (model_of r ue bearer)
ups_by way ue bearer r (confirm_input other q Dl pdu content) =
    of_model (λ d. if is_of ue bearer other q then of_number (way.number d.sn pdu) d else []) (model_of r ue bearer)
ups_by way ue bearer r input = of_model (of_change way (change_by way ue bearer r input)) (model_of r ue bearer)
