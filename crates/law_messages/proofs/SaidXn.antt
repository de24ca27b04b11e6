-- What is written for a message says it: XnMessage.
use Rattle.std.proofs.Common.{◌≡◌, ℕ, ◌==◌, Bool, true, false, List, [], ◌∷◌, Some, None, refl, ap}
use Rattle.std.specs.Prelude.{codes, if◌then◌else◌}
use Rattle.gnb_types.specs.declared.names.UeId.{UeId}
use Rattle.gnb_types.specs.declared.names.SnBits.{SnBits}
use Rattle.gnb_types.specs.declared.plans.Peer.{Peer}
use Rattle.message_types.specs.declared.xn.XnMessage.TheVariants as xns
use Rattle.message_types.specs.declared.xn.XnMessage.{XnMessage}
use Rattle.aper_defs.specs.Values.{Value, Options, text, no_options, present}
use Rattle.aper_defs.specs.Fields.{Path}
use Rattle.aper_defs.specs.Membership.{Has, HasComponents, HasAdditions, HasRow, HasBody, HasOutcome}
use Rattle.message_defs.specs.profile_defs.Forms.{Components, no_components, component, tree, parts, rows, procedures, outcome_tree}
use Rattle.message_defs.specs.profile_defs.BaseTypes as types
use Rattle.message_defs.specs.profile_defs.Elements as ies
use Rattle.message_defs.specs.profile_defs.Messages.{handover_request, handover_request_acknowledge, sn_status_transfer}
use Rattle.message_defs.specs.profile_defs.Profile.{xn_type}
use Rattle.message_defs.specs.Fields.{from_number, from_ue, from_sn, from_peer, from_tunnels, from_statuses}
use Rattle.message_defs.specs.Places.{has, written_message}
use Rattle.message_defs.specs.Known.{if_some, known, known_components, known_additions, known_row, known_body, known_message}
use Rattle.message_defs.specs.Xn.{written_xn}
use Rattle.law_messages.proofs.KnownFields.{none, one, said_as, tunnels_known, statuses_known}

-- the additions of HandoverRequest in a version
abbrev pub additions_if : Bool → Components
additions_if b = if b then component (codes "origin") false types.name no_components else no_components

no_addition : (b : Bool) → if_some (known_additions (parts (additions_if b)) no_options) ≡ no_options
unfolding parts known_additions
no_addition true = refl
no_addition false = refl

one_addition : (b : Bool) (p : Path) (origin : List ℕ) → HasAdditions p (parts (additions_if b)) (present (text origin) no_options)
    → if_some (known_additions (parts (additions_if b)) (present (text origin) no_options)) ≡ present (text origin) no_options
unfolding tree parts known known_additions HasAdditions
one_addition true p origin h = refl
one_addition false p origin h = absurd h.0

ho : UeId → ℕ → ℕ → ℕ → SnBits → ℕ → Peer → ℕ → Options → Value
ho ue instance epoch bearers sn quota peer du more = written_message (handover_request 2)
    (has ies.ue (from_ue ue) ∷ has ies.instance (from_number instance) ∷ has ies.epoch (from_number epoch)
    ∷ has ies.bearers (from_number bearers) ∷ has ies.sn (from_sn sn) ∷ has ies.quota (from_number quota)
    ∷ has ies.peer (from_peer peer) ∷ has ies.du (from_number du) ∷ []) more

pub said : (version : ℕ) (msg : XnMessage) → Has [] (xn_type version) (written_xn msg) → known (xn_type version) (written_xn msg) ≡ written_xn msg
unfolding ho xn_type tree parts rows procedures outcome_tree known known_components known_additions known_row known_body known_message written_xn Has HasComponents HasAdditions HasRow HasBody HasOutcome
said version (xns.HandoverRequest ue instance epoch bearers sn quota peer du None) h = ap (λ (more : Options). ho ue instance epoch bearers sn quota peer du more) (no_addition (version == 2))
said version (xns.HandoverRequest ue instance epoch bearers sn quota peer du (Some origin)) h =
    ap (λ (more : Options). ho ue instance epoch bearers sn quota peer du more) (one_addition (version == 2) _ origin h.2.0.2)
said version (xns.HandoverRequestAcknowledge ue instance peer forward_down forward_up) h = said_as handover_request_acknowledge
    (has ies.ue (from_ue ue) ∷ has ies.instance (from_number instance) ∷ has ies.peer (from_peer peer) ∷ has ies.forward_down (from_tunnels forward_down) ∷ has ies.forward_up (from_tunnels forward_up) ∷ [])
    (one refl refl (one refl refl (one refl refl (one refl (ap Some (tunnels_known forward_down)) (one refl (ap Some (tunnels_known forward_up)) none)))))
said version (xns.HandoverPreparationFailure ue instance cause) h = refl
said version (xns.SnStatusTransfer ue instance statuses) h = said_as sn_status_transfer
    (has ies.ue (from_ue ue) ∷ has ies.instance (from_number instance) ∷ has ies.statuses (from_statuses statuses) ∷ [])
    (one refl refl (one refl refl (one refl (ap Some (statuses_known statuses)) none)))
said version (xns.HandoverCancel ue instance) h = refl
said version (xns.UeContextRelease ue instance) h = refl
said version (xns.TransportConfirm ue instance) h = refl
