-- XnAP (TS 38.423), between two CU-CPs: the value that is written for a message, what a value says, and what is heard in a value.
use Rattle.std.specs.Prelude.{ℕ, List, [], ◌∷◌, Option, Some, None, Result, Err, if◌then◌else◌}
use Rattle.message_types.specs.declared.xn.XnMessage.{XnMessage}
use Rattle.message_types.specs.declared.xn.XnMessage.TheVariants as xns
use Rattle.aper_defs.specs.Values.{Value, Options, Ies, enumeral, text, message, no_options, present}
use Rattle.message_defs.specs.profile_defs.Elements as ies
use Rattle.message_defs.specs.profile_defs.Tables.{is_at}
use Rattle.message_defs.specs.profile_defs.Messages.{handover_request, handover_request_acknowledge, handover_preparation_failure, sn_status_transfer, handover_cancel, ue_context_release, transport_confirm}
use Rattle.message_defs.specs.profile_defs.Profile.{xn_type}
use Rattle.message_defs.specs.Fields.{from_number, from_peer, from_sn, from_statuses, from_tunnels, from_ue, to_index, to_number, to_peer, to_sn, to_statuses, to_tunnels, to_ue}
use Rattle.message_defs.specs.Places.{has, written_message, the, elements_in, additions_in}
use Rattle.message_defs.specs.Known.{Says}
use Rattle.message_defs.specs.FromValue.{Cause, unknown_procedure, from_value_as}

-- The name of the source is a named addition of HandoverRequest in version 2 of the profile. In version 1 it isn't named: there an addition
-- is raw, so no value with one is read as a name, and no written value with a name is of the type. All else is the same in both.
abbrev pub origin_additions : Option (List ℕ) → Options
origin_additions None = no_options
origin_additions (Some origin) = present (text origin) no_options

abbrev pub to_origin : Options → Option (List ℕ)
to_origin (present (text origin) more) = Some origin
to_origin more = None

unfoldable pub written_xn : XnMessage → Value
written_xn (xns.HandoverRequest ue instance epoch bearers sn quota peer du origin) = written_message (handover_request 2)
    (has ies.ue (from_ue ue) ∷ has ies.instance (from_number instance) ∷ has ies.epoch (from_number epoch)
    ∷ has ies.bearers (from_number bearers) ∷ has ies.sn (from_sn sn) ∷ has ies.quota (from_number quota)
    ∷ has ies.peer (from_peer peer) ∷ has ies.du (from_number du) ∷ []) (origin_additions origin)
written_xn (xns.HandoverRequestAcknowledge ue instance peer forward_down forward_up) = written_message handover_request_acknowledge
    (has ies.ue (from_ue ue) ∷ has ies.instance (from_number instance) ∷ has ies.peer (from_peer peer)
    ∷ has ies.forward_down (from_tunnels forward_down) ∷ has ies.forward_up (from_tunnels forward_up) ∷ []) no_options
written_xn (xns.HandoverPreparationFailure ue instance cause) = written_message handover_preparation_failure
    (has ies.ue (from_ue ue) ∷ has ies.instance (from_number instance) ∷ has ies.cause (enumeral cause) ∷ []) no_options
written_xn (xns.SnStatusTransfer ue instance statuses) = written_message sn_status_transfer
    (has ies.ue (from_ue ue) ∷ has ies.instance (from_number instance) ∷ has ies.statuses (from_statuses statuses) ∷ []) no_options
written_xn (xns.HandoverCancel ue instance) = written_message handover_cancel
    (has ies.ue (from_ue ue) ∷ has ies.instance (from_number instance) ∷ []) no_options
written_xn (xns.UeContextRelease ue instance) = written_message ue_context_release
    (has ies.ue (from_ue ue) ∷ has ies.instance (from_number instance) ∷ []) no_options
written_xn (xns.TransportConfirm ue instance) = written_message transport_confirm
    (has ies.ue (from_ue ue) ∷ has ies.instance (from_number instance) ∷ []) no_options

abbrev pub SaysXn : (version : ℕ) → XnMessage → Value → Type 0
SaysXn version msg v = Says (xn_type version) (written_xn msg) v

unfoldable pub xn_at : (index code criticality : ℕ) → Ies → Options → Result XnMessage Cause
xn_at index code criticality found more =
    if is_at code index (handover_request 2) then from_value_as (handover_request 2) found
    (xns.HandoverRequest (the ies.ue to_ue found) (the ies.instance to_number found) (the ies.epoch to_number found)
    (the ies.bearers to_number found) (the ies.sn to_sn found) (the ies.quota to_number found) (the ies.peer to_peer found)
    (the ies.du to_number found) (to_origin more))
    else if is_at code index handover_request_acknowledge then from_value_as handover_request_acknowledge found
    (xns.HandoverRequestAcknowledge (the ies.ue to_ue found) (the ies.instance to_number found) (the ies.peer to_peer found)
    (the ies.forward_down to_tunnels found) (the ies.forward_up to_tunnels found))
    else if is_at code index handover_preparation_failure then from_value_as handover_preparation_failure found
    (xns.HandoverPreparationFailure (the ies.ue to_ue found) (the ies.instance to_number found)
    (the ies.cause to_index found))
    else if is_at code index sn_status_transfer then from_value_as sn_status_transfer found
    (xns.SnStatusTransfer (the ies.ue to_ue found) (the ies.instance to_number found) (the ies.statuses to_statuses found))
    else if is_at code index handover_cancel then from_value_as handover_cancel found
    (xns.HandoverCancel (the ies.ue to_ue found) (the ies.instance to_number found))
    else if is_at code index ue_context_release then from_value_as ue_context_release found
    (xns.UeContextRelease (the ies.ue to_ue found) (the ies.instance to_number found))
    else if is_at code index transport_confirm then from_value_as transport_confirm found
    (xns.TransportConfirm (the ies.ue to_ue found) (the ies.instance to_number found))
    else Err (unknown_procedure code criticality)

unfoldable pub xn_from_value : Value → Result XnMessage Cause
xn_from_value (message index code criticality body) = xn_at index code criticality (elements_in body) (additions_in body)
xn_from_value v = Err (unknown_procedure 0 0)
