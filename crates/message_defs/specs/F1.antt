-- F1AP (TS 38.473), between a CU-CP and a DU: the value that is written for a message, what a value says, and what is heard in a value.
use Rattle.std.specs.Prelude.{ℕ, List, [], ◌∷◌, Result, Err, if◌then◌else◌}
use Rattle.message_types.specs.declared.f1.F1.{F1}
use Rattle.message_types.specs.declared.f1.F1.TheVariants as f1s
use Rattle.aper_defs.specs.Values.{Value, Ies, octets, text, message, no_options}
use Rattle.message_defs.specs.profile_defs.Elements as ies
use Rattle.message_defs.specs.profile_defs.Tables.{is_at}
use Rattle.message_defs.specs.profile_defs.Messages.{f1_setup_request, f1_setup_response, ue_context_setup_request, ue_context_setup_response, ue_context_modification_request, ue_context_modification_response, ue_context_release_command, ue_context_release_complete, dl_rrc_message_transfer, ul_rrc_message_transfer}
use Rattle.message_defs.specs.profile_defs.Profile.{f1_type}
use Rattle.message_defs.specs.Fields.{from_number, from_peer, from_sn, from_tunnels, from_ue, to_number, to_octets, to_peer, to_sn, to_text, to_tunnels, to_ue}
use Rattle.message_defs.specs.Places.{has, written_message, the, elements_in}
use Rattle.message_defs.specs.Known.{Says}
use Rattle.message_defs.specs.FromValue.{Cause, unknown_procedure, from_value_as}

abbrev pub F1Message : Type 0
F1Message = F1 (List ℕ)

unfoldable pub written_f1 : F1Message → Value
written_f1 (f1s.F1SetupRequest instance name) = written_message f1_setup_request
    (has ies.instance (from_number instance) ∷ has ies.name (text name) ∷ []) no_options
written_f1 (f1s.F1SetupResponse instance) = written_message f1_setup_response
    (has ies.instance (from_number instance) ∷ []) no_options
written_f1 (f1s.UeContextSetupRequest ue instance epoch uplinks sn peer) = written_message ue_context_setup_request
    (has ies.ue (from_ue ue) ∷ has ies.instance (from_number instance) ∷ has ies.epoch (from_number epoch)
    ∷ has ies.uplinks (from_tunnels uplinks) ∷ has ies.sn (from_sn sn) ∷ has ies.peer (from_peer peer) ∷ []) no_options
written_f1 (f1s.UeContextSetupResponse ue instance downlinks) = written_message ue_context_setup_response
    (has ies.ue (from_ue ue) ∷ has ies.instance (from_number instance) ∷ has ies.downlinks (from_tunnels downlinks) ∷ []) no_options
written_f1 (f1s.UeContextModificationRequest ue instance epoch) = written_message ue_context_modification_request
    (has ies.ue (from_ue ue) ∷ has ies.instance (from_number instance) ∷ has ies.epoch (from_number epoch) ∷ []) no_options
written_f1 (f1s.UeContextModificationResponse ue instance downlinks) = written_message ue_context_modification_response
    (has ies.ue (from_ue ue) ∷ has ies.instance (from_number instance) ∷ has ies.downlinks (from_tunnels downlinks) ∷ []) no_options
written_f1 (f1s.UeContextReleaseCommand ue instance) = written_message ue_context_release_command
    (has ies.ue (from_ue ue) ∷ has ies.instance (from_number instance) ∷ []) no_options
written_f1 (f1s.UeContextReleaseComplete ue instance) = written_message ue_context_release_complete
    (has ies.ue (from_ue ue) ∷ has ies.instance (from_number instance) ∷ []) no_options
written_f1 (f1s.DlRrcMessageTransfer ue container) = written_message dl_rrc_message_transfer
    (has ies.ue (from_ue ue) ∷ has ies.container (octets container) ∷ []) no_options
written_f1 (f1s.UlRrcMessageTransfer ue container) = written_message ul_rrc_message_transfer
    (has ies.ue (from_ue ue) ∷ has ies.container (octets container) ∷ []) no_options

abbrev pub SaysF1 : F1Message → Value → Type 0
SaysF1 msg v = Says f1_type (written_f1 msg) v

unfoldable pub f1_at : (index code criticality : ℕ) → Ies → Result F1Message Cause
f1_at index code criticality found =
    if is_at code index f1_setup_request then from_value_as f1_setup_request found
    (f1s.F1SetupRequest (the ies.instance to_number found) (the ies.name to_text found))
    else if is_at code index f1_setup_response then from_value_as f1_setup_response found
    (f1s.F1SetupResponse (the ies.instance to_number found))
    else if is_at code index ue_context_setup_request then from_value_as ue_context_setup_request found
    (f1s.UeContextSetupRequest (the ies.ue to_ue found) (the ies.instance to_number found) (the ies.epoch to_number found)
    (the ies.uplinks to_tunnels found) (the ies.sn to_sn found) (the ies.peer to_peer found))
    else if is_at code index ue_context_setup_response then from_value_as ue_context_setup_response found
    (f1s.UeContextSetupResponse (the ies.ue to_ue found) (the ies.instance to_number found)
    (the ies.downlinks to_tunnels found))
    else if is_at code index ue_context_modification_request then from_value_as ue_context_modification_request found
    (f1s.UeContextModificationRequest (the ies.ue to_ue found) (the ies.instance to_number found)
    (the ies.epoch to_number found))
    else if is_at code index ue_context_modification_response then from_value_as ue_context_modification_response found
    (f1s.UeContextModificationResponse (the ies.ue to_ue found) (the ies.instance to_number found)
    (the ies.downlinks to_tunnels found))
    else if is_at code index ue_context_release_command then from_value_as ue_context_release_command found
    (f1s.UeContextReleaseCommand (the ies.ue to_ue found) (the ies.instance to_number found))
    else if is_at code index ue_context_release_complete then from_value_as ue_context_release_complete found
    (f1s.UeContextReleaseComplete (the ies.ue to_ue found) (the ies.instance to_number found))
    else if is_at code index dl_rrc_message_transfer then from_value_as dl_rrc_message_transfer found
    (f1s.DlRrcMessageTransfer (the ies.ue to_ue found) (the ies.container to_octets found))
    else if is_at code index ul_rrc_message_transfer then from_value_as ul_rrc_message_transfer found
    (f1s.UlRrcMessageTransfer (the ies.ue to_ue found) (the ies.container to_octets found))
    else Err (unknown_procedure code criticality)

unfoldable pub f1_from_value : Value → Result F1Message Cause
f1_from_value (message index code criticality body) = f1_at index code criticality (elements_in body)
f1_from_value v = Err (unknown_procedure 0 0)
