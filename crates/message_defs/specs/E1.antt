-- E1AP (TS 37.483), between a CU-CP and a CU-UP: the value that is written for a message, what a value says, and what is heard in a value.
use Rattle.std.specs.Prelude.{ℕ, [], ◌∷◌, Result, Err, if◌then◌else◌}
use Rattle.message_types.specs.declared.e1.E1Message.{E1Message}
use Rattle.message_types.specs.declared.e1.E1Message.TheVariants as e1s
use Rattle.aper_defs.specs.Values.{Value, Ies, truth, enumeral, text, message, no_options}
use Rattle.message_defs.specs.profile_defs.Elements as ies
use Rattle.message_defs.specs.profile_defs.Tables.{is_at}
use Rattle.message_defs.specs.profile_defs.Messages.{e1_setup_request, e1_setup_response, bearer_context_setup_request, bearer_context_setup_response, bearer_context_setup_failure, bearer_context_modification_request, bearer_context_modification_response, bearer_context_modification_failure, bearer_context_release_command, bearer_context_release_complete}
use Rattle.message_defs.specs.profile_defs.Profile.{e1_type}
use Rattle.message_defs.specs.Fields.{from_number, from_peer, from_sn, from_statuses, from_tunnels, from_ue, to_flag, to_index, to_number, to_peer, to_sn, to_statuses, to_text, to_tunnels, to_ue}
use Rattle.message_defs.specs.Places.{has, may_have, written_message, the, any, elements_in}
use Rattle.message_defs.specs.Known.{Says}
use Rattle.message_defs.specs.FromValue.{Cause, unknown_procedure, from_value_as}

unfoldable pub written_e1 : E1Message → Value
written_e1 (e1s.E1SetupRequest instance name) = written_message e1_setup_request
    (has ies.instance (from_number instance) ∷ has ies.name (text name) ∷ []) no_options
written_e1 (e1s.E1SetupResponse instance) = written_message e1_setup_response
    (has ies.instance (from_number instance) ∷ []) no_options
written_e1 (e1s.BearerContextSetupRequest ue instance bearers sn quota forward) = written_message bearer_context_setup_request
    (has ies.ue (from_ue ue) ∷ has ies.instance (from_number instance) ∷ has ies.bearers (from_number bearers)
    ∷ has ies.sn (from_sn sn) ∷ has ies.quota (from_number quota) ∷ has ies.forward (truth forward) ∷ []) no_options
written_e1 (e1s.BearerContextSetupResponse ue instance uplinks n3 forward_down forward_up) =
    written_message bearer_context_setup_response
    (has ies.ue (from_ue ue) ∷ has ies.instance (from_number instance) ∷ has ies.uplinks (from_tunnels uplinks)
    ∷ has ies.n3 (from_tunnels n3) ∷ may_have ies.forward_down from_tunnels forward_down
    ∷ may_have ies.forward_up from_tunnels forward_up ∷ []) no_options
written_e1 (e1s.BearerContextSetupFailure ue instance cause) = written_message bearer_context_setup_failure
    (has ies.ue (from_ue ue) ∷ has ies.instance (from_number instance) ∷ has ies.cause (enumeral cause) ∷ []) no_options
written_e1 (e1s.BearerContextModificationRequest ue instance downlinks mode peer forward_down forward_up statuses du) =
    written_message bearer_context_modification_request
    (has ies.ue (from_ue ue) ∷ has ies.instance (from_number instance) ∷ may_have ies.downlinks from_tunnels downlinks
    ∷ has ies.mode (enumeral mode) ∷ may_have ies.peer from_peer peer ∷ may_have ies.forward_down from_tunnels forward_down
    ∷ may_have ies.forward_up from_tunnels forward_up ∷ may_have ies.statuses from_statuses statuses
    ∷ may_have ies.du from_number du ∷ []) no_options
written_e1 (e1s.BearerContextModificationResponse ue instance uplinks statuses) =
    written_message bearer_context_modification_response
    (has ies.ue (from_ue ue) ∷ has ies.instance (from_number instance) ∷ may_have ies.uplinks from_tunnels uplinks
    ∷ may_have ies.statuses from_statuses statuses ∷ []) no_options
written_e1 (e1s.BearerContextModificationFailure ue instance cause) = written_message bearer_context_modification_failure
    (has ies.ue (from_ue ue) ∷ has ies.instance (from_number instance) ∷ has ies.cause (enumeral cause) ∷ []) no_options
written_e1 (e1s.BearerContextReleaseCommand ue instance is_final) = written_message bearer_context_release_command
    (has ies.ue (from_ue ue) ∷ has ies.instance (from_number instance) ∷ has ies.is_final (truth is_final) ∷ []) no_options
written_e1 (e1s.BearerContextReleaseComplete ue instance) = written_message bearer_context_release_complete
    (has ies.ue (from_ue ue) ∷ has ies.instance (from_number instance) ∷ []) no_options

abbrev pub SaysE1 : E1Message → Value → Type 0
SaysE1 msg v = Says e1_type (written_e1 msg) v

unfoldable pub e1_at : (index code criticality : ℕ) → Ies → Result E1Message Cause
e1_at index code criticality found =
    if is_at code index e1_setup_request then from_value_as e1_setup_request found
    (e1s.E1SetupRequest (the ies.instance to_number found) (the ies.name to_text found))
    else if is_at code index e1_setup_response then from_value_as e1_setup_response found
    (e1s.E1SetupResponse (the ies.instance to_number found))
    else if is_at code index bearer_context_setup_request then from_value_as bearer_context_setup_request found
    (e1s.BearerContextSetupRequest (the ies.ue to_ue found) (the ies.instance to_number found)
    (the ies.bearers to_number found) (the ies.sn to_sn found) (the ies.quota to_number found)
    (the ies.forward to_flag found))
    else if is_at code index bearer_context_setup_response then from_value_as bearer_context_setup_response found
    (e1s.BearerContextSetupResponse (the ies.ue to_ue found) (the ies.instance to_number found)
    (the ies.uplinks to_tunnels found) (the ies.n3 to_tunnels found) (any ies.forward_down to_tunnels found)
    (any ies.forward_up to_tunnels found))
    else if is_at code index bearer_context_setup_failure then from_value_as bearer_context_setup_failure found
    (e1s.BearerContextSetupFailure (the ies.ue to_ue found) (the ies.instance to_number found) (the ies.cause to_index found))
    else if is_at code index bearer_context_modification_request then from_value_as bearer_context_modification_request found
    (e1s.BearerContextModificationRequest (the ies.ue to_ue found) (the ies.instance to_number found)
    (any ies.downlinks to_tunnels found) (the ies.mode to_index found) (any ies.peer to_peer found)
    (any ies.forward_down to_tunnels found) (any ies.forward_up to_tunnels found) (any ies.statuses to_statuses found)
    (any ies.du to_number found))
    else if is_at code index bearer_context_modification_response then from_value_as bearer_context_modification_response found
    (e1s.BearerContextModificationResponse (the ies.ue to_ue found) (the ies.instance to_number found)
    (any ies.uplinks to_tunnels found) (any ies.statuses to_statuses found))
    else if is_at code index bearer_context_modification_failure then from_value_as bearer_context_modification_failure found
    (e1s.BearerContextModificationFailure (the ies.ue to_ue found) (the ies.instance to_number found)
    (the ies.cause to_index found))
    else if is_at code index bearer_context_release_command then from_value_as bearer_context_release_command found
    (e1s.BearerContextReleaseCommand (the ies.ue to_ue found) (the ies.instance to_number found)
    (the ies.is_final to_flag found))
    else if is_at code index bearer_context_release_complete then from_value_as bearer_context_release_complete found
    (e1s.BearerContextReleaseComplete (the ies.ue to_ue found) (the ies.instance to_number found))
    else Err (unknown_procedure code criticality)

unfoldable pub e1_from_value : Value → Result E1Message Cause
e1_from_value (message index code criticality body) = e1_at index code criticality (elements_in body)
e1_from_value v = Err (unknown_procedure 0 0)
