-- What is written for a message says it: CoreMessage.
use Rattle.std.proofs.Common.{◌≡◌, [], ◌∷◌, Some, refl, ap}
use Rattle.message_types.specs.declared.xn.CoreMessage.TheVariants as cores
use Rattle.message_types.specs.declared.xn.CoreMessage.{CoreMessage}
use Rattle.message_defs.specs.profile_defs.Forms.{tree, parts, rows, procedures, outcome_tree}
use Rattle.message_defs.specs.profile_defs.Elements as ies
use Rattle.message_defs.specs.profile_defs.Messages.{path_switch_request}
use Rattle.message_defs.specs.profile_defs.Profile.{core_type}
use Rattle.message_defs.specs.Fields.{from_number, from_ue, from_peer, from_tunnels}
use Rattle.message_defs.specs.Places.{has}
use Rattle.message_defs.specs.Known.{known, known_components, known_additions, known_row, known_body, known_message}
use Rattle.message_defs.specs.Core.{written_core}
use Rattle.law_messages.proofs.KnownFields.{none, one, said_as, tunnels_known}

pub said : (msg : CoreMessage) → known core_type (written_core msg) ≡ written_core msg
unfolding core_type tree parts rows procedures outcome_tree known known_components known_additions known_row known_body known_message written_core
said (cores.PathSwitchRequest ue instance peer n3) = said_as path_switch_request
    (has ies.ue (from_ue ue) ∷ has ies.instance (from_number instance) ∷ has ies.peer (from_peer peer) ∷ has ies.n3 (from_tunnels n3) ∷ [])
    (one refl refl (one refl refl (one refl refl (one refl (ap Some (tunnels_known n3)) none))))
said (cores.PathSwitchAcknowledge ue instance) = refl
