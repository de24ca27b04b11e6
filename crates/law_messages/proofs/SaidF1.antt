-- What is written for a message says it: F1.
use Rattle.std.proofs.Common.{◌≡◌, [], ◌∷◌, Some, refl, ap}
use Rattle.message_types.specs.declared.f1.F1.TheVariants as f1s
use Rattle.message_defs.specs.profile_defs.Forms.{tree, parts, rows, procedures, outcome_tree}
use Rattle.message_defs.specs.profile_defs.Elements as ies
use Rattle.message_defs.specs.profile_defs.Messages.{ue_context_setup_request, ue_context_setup_response, ue_context_modification_response}
use Rattle.message_defs.specs.profile_defs.Profile.{f1_type}
use Rattle.message_defs.specs.Fields.{from_number, from_ue, from_sn, from_peer, from_tunnels}
use Rattle.message_defs.specs.Places.{has}
use Rattle.message_defs.specs.Known.{known, known_components, known_additions, known_row, known_body, known_message}
use Rattle.message_defs.specs.F1.{F1Message, written_f1}
use Rattle.law_messages.proofs.KnownFields.{none, one, said_as, tunnels_known}

pub said : (msg : F1Message) → known f1_type (written_f1 msg) ≡ written_f1 msg
unfolding f1_type tree parts rows procedures outcome_tree known known_components known_additions known_row known_body known_message written_f1
said (f1s.F1SetupRequest instance name) = refl
said (f1s.F1SetupResponse instance) = refl
said (f1s.UeContextSetupRequest ue instance epoch uplinks sn peer) = said_as ue_context_setup_request
    (has ies.ue (from_ue ue) ∷ has ies.instance (from_number instance) ∷ has ies.epoch (from_number epoch) ∷ has ies.uplinks (from_tunnels uplinks) ∷ has ies.sn (from_sn sn) ∷ has ies.peer (from_peer peer) ∷ [])
    (one refl refl (one refl refl (one refl refl (one refl (ap Some (tunnels_known uplinks)) (one refl refl (one refl refl none))))))
said (f1s.UeContextSetupResponse ue instance downlinks) = said_as ue_context_setup_response
    (has ies.ue (from_ue ue) ∷ has ies.instance (from_number instance) ∷ has ies.downlinks (from_tunnels downlinks) ∷ [])
    (one refl refl (one refl refl (one refl (ap Some (tunnels_known downlinks)) none)))
said (f1s.UeContextModificationRequest ue instance epoch) = refl
said (f1s.UeContextModificationResponse ue instance downlinks) = said_as ue_context_modification_response
    (has ies.ue (from_ue ue) ∷ has ies.instance (from_number instance) ∷ has ies.downlinks (from_tunnels downlinks) ∷ [])
    (one refl refl (one refl refl (one refl (ap Some (tunnels_known downlinks)) none)))
said (f1s.UeContextReleaseCommand ue instance) = refl
said (f1s.UeContextReleaseComplete ue instance) = refl
said (f1s.DlRrcMessageTransfer ue container) = refl
said (f1s.UlRrcMessageTransfer ue container) = refl
