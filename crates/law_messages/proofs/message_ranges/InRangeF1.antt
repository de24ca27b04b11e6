-- F1: messages whose fields lie in their ranges are written as values of their type.
use Rattle.std.proofs.Common.{true, List, [], ◌∷◌, refl, arith}
use Rattle.std.specs.Prelude.{codes}
use Rattle.message_types.specs.declared.f1.F1.TheVariants as f1s
use Rattle.aper_defs.specs.Values.{octets, text}
use Rattle.aper_defs.specs.Fields.{Path}
use Rattle.aper_defs.specs.Fields as fields
use Rattle.aper_defs.specs.Layouts.{layout, row_fields, body_fields, outcome_fields}
use Rattle.aper_defs.specs.Membership.{Has, HasRow, HasBody, HasOutcome}
use Rattle.message_defs.specs.profile_defs.Forms.{tree, parts, rows, procedures, outcome_tree}
use Rattle.message_defs.specs.profile_defs.BaseTypes as types
use Rattle.message_defs.specs.profile_defs.Compounds as compounds
use Rattle.message_defs.specs.profile_defs.Elements as ies
use Rattle.message_defs.specs.profile_defs.Tables.{Use}
use Rattle.message_defs.specs.profile_defs.Messages.{f1_setup_request, f1_setup_response, ue_context_setup_request, ue_context_setup_response, ue_context_modification_request, ue_context_modification_response, ue_context_release_command, ue_context_release_complete, dl_rrc_message_transfer, ul_rrc_message_transfer}
use Rattle.message_defs.specs.profile_defs.Profile.{f1_type}
use Rattle.message_defs.specs.Fields.{from_number, from_ue, from_sn, from_peer, from_tunnels}
use Rattle.message_defs.specs.Places.{has}
use Rattle.message_defs.specs.F1.{F1Message, written_f1}
use Rattle.law_messages.specs.message_ranges.Ranges.{InRangeF1}
use Rattle.law_messages.proofs.message_ranges.Goods.{ue_good, word_good, peer_good, container_good, name_good, tunnels_good, sn_good}
use Rattle.law_messages.proofs.message_ranges.Bodies.{none, one, given, always, message_good}

pub in_range : (msg : F1Message) → InRangeF1 msg → Has [] f1_type (written_f1 msg)
unfolding f1_type tree parts rows procedures outcome_tree written_f1 layout row_fields body_fields outcome_fields Has HasRow HasBody HasOutcome
in_range (f1s.F1SetupRequest instance name) h =
    let p : Path = fields.component (codes "protocolIEs") ∷ fields.outcome 0 ∷ [] in
    let uses : List Use = f1_setup_request.elements in (
      omega arith,
      omega arith,
      message_good uses (fields.outcome 0 ∷ [])
          (has ies.instance (from_number instance) ∷ has ies.name (text name) ∷ [])
          (one 72 refl (omega arith) (always (from_number instance) true) (given p (fields.element 2 ∷ p) (tree types.word) (from_number instance) 41 (word_good (fields.element 2 ∷ p) instance h.0) (omega arith))
          (one 128062 refl (omega arith) (always (text name) true) (given p (fields.element 17 ∷ p) (tree types.name) (text name) 128031 (name_good (fields.element 17 ∷ p) name h.1) (omega arith)) none))
          refl (omega arith) (omega arith),
    )
in_range (f1s.F1SetupResponse instance) h =
    let p : Path = fields.component (codes "protocolIEs") ∷ fields.outcome 1 ∷ [] in
    let uses : List Use = f1_setup_response.elements in (
      omega arith,
      omega arith,
      message_good uses (fields.outcome 1 ∷ [])
          (has ies.instance (from_number instance) ∷ [])
          (one 72 refl (omega arith) (always (from_number instance) true) (given p (fields.element 2 ∷ p) (tree types.word) (from_number instance) 41 (word_good (fields.element 2 ∷ p) instance h) (omega arith)) none)
          refl (omega arith) (omega arith),
    )
in_range (f1s.UeContextSetupRequest ue instance epoch uplinks sn peer) h =
    let p : Path = fields.component (codes "protocolIEs") ∷ fields.outcome 0 ∷ [] in
    let uses : List Use = ue_context_setup_request.elements in (
      omega arith,
      omega arith,
      message_good uses (fields.outcome 0 ∷ [])
          (has ies.ue (from_ue ue) ∷ has ies.instance (from_number instance) ∷ has ies.epoch (from_number epoch) ∷ has ies.uplinks (from_tunnels uplinks) ∷ has ies.sn (from_sn sn) ∷ has ies.peer (from_peer peer) ∷ [])
          (one 72 refl (omega arith) (always (from_ue ue) true) (given p (fields.element 1 ∷ p) (tree types.ue) (from_ue ue) 41 (ue_good (fields.element 1 ∷ p) ue.0 h.0) (omega arith))
          (one 72 refl (omega arith) (always (from_number instance) true) (given p (fields.element 2 ∷ p) (tree types.word) (from_number instance) 41 (word_good (fields.element 2 ∷ p) instance h.1) (omega arith))
          (one 72 refl (omega arith) (always (from_number epoch) true) (given p (fields.element 3 ∷ p) (tree types.word) (from_number epoch) 41 (word_good (fields.element 3 ∷ p) epoch h.2) (omega arith))
          (one 774 refl (omega arith) (always (from_tunnels uplinks) true) (given p (fields.element 5 ∷ p) (tree compounds.tunnels) (from_tunnels uplinks) 743 (tunnels_good (fields.element 5 ∷ p) uplinks h.3) (omega arith))
          (one 72 refl (omega arith) (always (from_sn sn) true) (given p (fields.element 9 ∷ p) (tree types.sn_bits) (from_sn sn) 41 (sn_good (fields.element 9 ∷ p) sn) (omega arith))
          (one 121 refl (omega arith) (always (from_peer peer) true) (given p (fields.element 12 ∷ p) (tree compounds.peer) (from_peer peer) 90 (peer_good (fields.element 12 ∷ p) peer h.4) (omega arith)) none))))))
          refl (omega arith) (omega arith),
    )
in_range (f1s.UeContextSetupResponse ue instance downlinks) h =
    let p : Path = fields.component (codes "protocolIEs") ∷ fields.outcome 1 ∷ [] in
    let uses : List Use = ue_context_setup_response.elements in (
      omega arith,
      omega arith,
      message_good uses (fields.outcome 1 ∷ [])
          (has ies.ue (from_ue ue) ∷ has ies.instance (from_number instance) ∷ has ies.downlinks (from_tunnels downlinks) ∷ [])
          (one 72 refl (omega arith) (always (from_ue ue) true) (given p (fields.element 1 ∷ p) (tree types.ue) (from_ue ue) 41 (ue_good (fields.element 1 ∷ p) ue.0 h.0) (omega arith))
          (one 72 refl (omega arith) (always (from_number instance) true) (given p (fields.element 2 ∷ p) (tree types.word) (from_number instance) 41 (word_good (fields.element 2 ∷ p) instance h.1) (omega arith))
          (one 774 refl (omega arith) (always (from_tunnels downlinks) true) (given p (fields.element 6 ∷ p) (tree compounds.tunnels) (from_tunnels downlinks) 743 (tunnels_good (fields.element 6 ∷ p) downlinks h.2) (omega arith)) none)))
          refl (omega arith) (omega arith),
    )
in_range (f1s.UeContextModificationRequest ue instance epoch) h =
    let p : Path = fields.component (codes "protocolIEs") ∷ fields.outcome 0 ∷ [] in
    let uses : List Use = ue_context_modification_request.elements in (
      omega arith,
      omega arith,
      message_good uses (fields.outcome 0 ∷ [])
          (has ies.ue (from_ue ue) ∷ has ies.instance (from_number instance) ∷ has ies.epoch (from_number epoch) ∷ [])
          (one 72 refl (omega arith) (always (from_ue ue) true) (given p (fields.element 1 ∷ p) (tree types.ue) (from_ue ue) 41 (ue_good (fields.element 1 ∷ p) ue.0 h.0) (omega arith))
          (one 72 refl (omega arith) (always (from_number instance) true) (given p (fields.element 2 ∷ p) (tree types.word) (from_number instance) 41 (word_good (fields.element 2 ∷ p) instance h.1) (omega arith))
          (one 72 refl (omega arith) (always (from_number epoch) true) (given p (fields.element 3 ∷ p) (tree types.word) (from_number epoch) 41 (word_good (fields.element 3 ∷ p) epoch h.2) (omega arith)) none)))
          refl (omega arith) (omega arith),
    )
in_range (f1s.UeContextModificationResponse ue instance downlinks) h =
    let p : Path = fields.component (codes "protocolIEs") ∷ fields.outcome 1 ∷ [] in
    let uses : List Use = ue_context_modification_response.elements in (
      omega arith,
      omega arith,
      message_good uses (fields.outcome 1 ∷ [])
          (has ies.ue (from_ue ue) ∷ has ies.instance (from_number instance) ∷ has ies.downlinks (from_tunnels downlinks) ∷ [])
          (one 72 refl (omega arith) (always (from_ue ue) true) (given p (fields.element 1 ∷ p) (tree types.ue) (from_ue ue) 41 (ue_good (fields.element 1 ∷ p) ue.0 h.0) (omega arith))
          (one 72 refl (omega arith) (always (from_number instance) true) (given p (fields.element 2 ∷ p) (tree types.word) (from_number instance) 41 (word_good (fields.element 2 ∷ p) instance h.1) (omega arith))
          (one 774 refl (omega arith) (always (from_tunnels downlinks) true) (given p (fields.element 6 ∷ p) (tree compounds.tunnels) (from_tunnels downlinks) 743 (tunnels_good (fields.element 6 ∷ p) downlinks h.2) (omega arith)) none)))
          refl (omega arith) (omega arith),
    )
in_range (f1s.UeContextReleaseCommand ue instance) h =
    let p : Path = fields.component (codes "protocolIEs") ∷ fields.outcome 0 ∷ [] in
    let uses : List Use = ue_context_release_command.elements in (
      omega arith,
      omega arith,
      message_good uses (fields.outcome 0 ∷ [])
          (has ies.ue (from_ue ue) ∷ has ies.instance (from_number instance) ∷ [])
          (one 72 refl (omega arith) (always (from_ue ue) true) (given p (fields.element 1 ∷ p) (tree types.ue) (from_ue ue) 41 (ue_good (fields.element 1 ∷ p) ue.0 h.0) (omega arith))
          (one 72 refl (omega arith) (always (from_number instance) true) (given p (fields.element 2 ∷ p) (tree types.word) (from_number instance) 41 (word_good (fields.element 2 ∷ p) instance h.1) (omega arith)) none))
          refl (omega arith) (omega arith),
    )
in_range (f1s.UeContextReleaseComplete ue instance) h =
    let p : Path = fields.component (codes "protocolIEs") ∷ fields.outcome 1 ∷ [] in
    let uses : List Use = ue_context_release_complete.elements in (
      omega arith,
      omega arith,
      message_good uses (fields.outcome 1 ∷ [])
          (has ies.ue (from_ue ue) ∷ has ies.instance (from_number instance) ∷ [])
          (one 72 refl (omega arith) (always (from_ue ue) true) (given p (fields.element 1 ∷ p) (tree types.ue) (from_ue ue) 41 (ue_good (fields.element 1 ∷ p) ue.0 h.0) (omega arith))
          (one 72 refl (omega arith) (always (from_number instance) true) (given p (fields.element 2 ∷ p) (tree types.word) (from_number instance) 41 (word_good (fields.element 2 ∷ p) instance h.1) (omega arith)) none))
          refl (omega arith) (omega arith),
    )
in_range (f1s.DlRrcMessageTransfer ue container) h =
    let p : Path = fields.component (codes "protocolIEs") ∷ fields.outcome 0 ∷ [] in
    let uses : List Use = dl_rrc_message_transfer.elements in (
      omega arith,
      omega arith,
      message_good uses (fields.outcome 0 ∷ [])
          (has ies.ue (from_ue ue) ∷ has ies.container (octets container) ∷ [])
          (one 72 refl (omega arith) (always (from_ue ue) true) (given p (fields.element 1 ∷ p) (tree types.ue) (from_ue ue) 41 (ue_good (fields.element 1 ∷ p) ue.0 h.0) (omega arith))
          (one 128062 refl (omega arith) (always (octets container) true) (given p (fields.element 7 ∷ p) (tree types.container) (octets container) 128031 (container_good (fields.element 7 ∷ p) container h.1) (omega arith)) none))
          refl (omega arith) (omega arith),
    )
in_range (f1s.UlRrcMessageTransfer ue container) h =
    let p : Path = fields.component (codes "protocolIEs") ∷ fields.outcome 0 ∷ [] in
    let uses : List Use = ul_rrc_message_transfer.elements in (
      omega arith,
      omega arith,
      message_good uses (fields.outcome 0 ∷ [])
          (has ies.ue (from_ue ue) ∷ has ies.container (octets container) ∷ [])
          (one 72 refl (omega arith) (always (from_ue ue) true) (given p (fields.element 1 ∷ p) (tree types.ue) (from_ue ue) 41 (ue_good (fields.element 1 ∷ p) ue.0 h.0) (omega arith))
          (one 128062 refl (omega arith) (always (octets container) true) (given p (fields.element 7 ∷ p) (tree types.container) (octets container) 128031 (container_good (fields.element 7 ∷ p) container h.1) (omega arith)) none))
          refl (omega arith) (omega arith),
    )
