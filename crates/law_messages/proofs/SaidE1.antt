-- What is written for a message says it: E1Message.
use Rattle.std.proofs.Common.{◌≡◌, [], ◌∷◌, Some, refl, ap}
use Rattle.message_types.specs.declared.e1.E1Message.TheVariants as e1s
use Rattle.message_types.specs.declared.e1.E1Message.{E1Message}
use Rattle.aper_defs.specs.Values.{enumeral}
use Rattle.message_defs.specs.profile_defs.Forms.{tree, parts, rows, procedures, outcome_tree}
use Rattle.message_defs.specs.profile_defs.Elements as ies
use Rattle.message_defs.specs.profile_defs.Messages.{bearer_context_setup_response, bearer_context_modification_request, bearer_context_modification_response}
use Rattle.message_defs.specs.profile_defs.Profile.{e1_type}
use Rattle.message_defs.specs.Fields.{from_number, from_ue, from_peer, from_tunnels, from_statuses}
use Rattle.message_defs.specs.Places.{has, may_have}
use Rattle.message_defs.specs.Known.{known, known_components, known_additions, known_row, known_body, known_message}
use Rattle.message_defs.specs.E1.{written_e1}
use Rattle.law_messages.proofs.KnownFields.{none, one, said_as, tunnels_known, tunnels_fixed, statuses_fixed, peer_fixed, unit_fixed}

pub said : (msg : E1Message) → known e1_type (written_e1 msg) ≡ written_e1 msg
unfolding e1_type tree parts rows procedures outcome_tree known known_components known_additions known_row known_body known_message written_e1
said (e1s.E1SetupRequest instance name) = refl
said (e1s.E1SetupResponse instance) = refl
said (e1s.BearerContextSetupRequest ue instance bearers sn quota forward) = refl
said (e1s.BearerContextSetupResponse ue instance uplinks n3 forward_down forward_up) = said_as bearer_context_setup_response
    (has ies.ue (from_ue ue) ∷ has ies.instance (from_number instance) ∷ has ies.uplinks (from_tunnels uplinks) ∷ has ies.n3 (from_tunnels n3) ∷ may_have ies.forward_down from_tunnels forward_down ∷ may_have ies.forward_up from_tunnels forward_up ∷ [])
    (one refl refl (one refl refl (one refl (ap Some (tunnels_known uplinks)) (one refl (ap Some (tunnels_known n3)) (one refl (tunnels_fixed forward_down) (one refl (tunnels_fixed forward_up) none))))))
said (e1s.BearerContextSetupFailure ue instance cause) = refl
said (e1s.BearerContextModificationRequest ue instance downlinks mode peer forward_down forward_up statuses du) = said_as bearer_context_modification_request
    (has ies.ue (from_ue ue) ∷ has ies.instance (from_number instance) ∷ may_have ies.downlinks from_tunnels downlinks ∷ has ies.mode (enumeral mode) ∷ may_have ies.peer from_peer peer ∷ may_have ies.forward_down from_tunnels forward_down ∷ may_have ies.forward_up from_tunnels forward_up ∷ may_have ies.statuses from_statuses statuses ∷ may_have ies.du from_number du ∷ [])
    (one refl refl (one refl refl (one refl (tunnels_fixed downlinks) (one refl refl (one refl (peer_fixed peer) (one refl (tunnels_fixed forward_down) (one refl (tunnels_fixed forward_up) (one refl (statuses_fixed statuses) (one refl (unit_fixed du) none)))))))))
said (e1s.BearerContextModificationResponse ue instance uplinks statuses) = said_as bearer_context_modification_response
    (has ies.ue (from_ue ue) ∷ has ies.instance (from_number instance) ∷ may_have ies.uplinks from_tunnels uplinks ∷ may_have ies.statuses from_statuses statuses ∷ [])
    (one refl refl (one refl refl (one refl (tunnels_fixed uplinks) (one refl (statuses_fixed statuses) none))))
said (e1s.BearerContextModificationFailure ue instance cause) = refl
said (e1s.BearerContextReleaseCommand ue instance is_final) = refl
said (e1s.BearerContextReleaseComplete ue instance) = refl
