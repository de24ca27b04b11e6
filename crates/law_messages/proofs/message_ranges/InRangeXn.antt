-- XnMessage: messages whose fields lie in their ranges are written as values of their type.
use Rattle.std.proofs.Common.{ℕ, true, List, [], ◌∷◌, Option, Some, None, ◌==◌, refl, sym, subst, arith}
use Rattle.std.specs.Prelude.{codes}
use Rattle.gnb_types.specs.declared.names.UeId.{UeId}
use Rattle.gnb_types.specs.declared.names.SnBits.{SnBits}
use Rattle.gnb_types.specs.declared.plans.Peer.{Peer}
use Rattle.message_types.specs.declared.xn.XnMessage.TheVariants as xns
use Rattle.message_types.specs.declared.xn.XnMessage.{XnMessage}
use Rattle.aper_defs.specs.Values.{enumeral, text, no_options, present}
use Rattle.aper_defs.specs.Fields.{Path}
use Rattle.aper_defs.specs.Fields as fields
use Rattle.aper_defs.specs.Layouts.{layout, row_fields, body_fields, outcome_fields}
use Rattle.aper_defs.specs.Membership.{Has, HasRow, HasBody, HasOutcome}
use Rattle.message_defs.specs.profile_defs.Forms.{tree, parts, rows, procedures, outcome_tree}
use Rattle.message_defs.specs.profile_defs.BaseTypes as types
use Rattle.message_defs.specs.profile_defs.Compounds as compounds
use Rattle.message_defs.specs.profile_defs.Elements as ies
use Rattle.message_defs.specs.profile_defs.Tables.{Use}
use Rattle.message_defs.specs.profile_defs.Messages.{handover_request, handover_request_acknowledge, handover_preparation_failure, sn_status_transfer, handover_cancel, ue_context_release, transport_confirm}
use Rattle.message_defs.specs.profile_defs.Profile.{xn_type}
use Rattle.message_defs.specs.Fields.{from_number, from_ue, from_sn, from_peer, from_tunnels, from_statuses}
use Rattle.message_defs.specs.Places.{Field, has}
use Rattle.message_defs.specs.Xn.{written_xn}
use Rattle.law_messages.specs.message_ranges.Ranges.{InRangeXn}
use Rattle.law_messages.proofs.message_ranges.Goods.{ue_good, word_good, bearer_good, quota_good, unit_good, cause_good, peer_good, tunnels_good, statuses_good, sn_good}
use Rattle.law_messages.proofs.message_ranges.Bodies.{none, one, given, always, message_made, message_good, additions_if, none_has, none_short, origin_has, origin_short}

-- a Handover Request
module _ (version : ℕ) (ue : UeId) (instance epoch bearers : ℕ) (sn : SnBits) (quota : ℕ) (peer : Peer) (du : ℕ) where
  abbrev its_fields : List Field
  its_fields = has ies.ue (from_ue ue) ∷ has ies.instance (from_number instance) ∷ has ies.epoch (from_number epoch) ∷ has ies.bearers (from_number bearers) ∷ has ies.sn (from_sn sn) ∷ has ies.quota (from_number quota) ∷ has ies.peer (from_peer peer) ∷ has ies.du (from_number du) ∷ []

  abbrev p : Path
  p = fields.component (codes "protocolIEs") ∷ fields.outcome 0 ∷ []

  abbrev uses : List Use
  uses = (handover_request 2).elements

  abbrev Rest : Option (List ℕ) → Type 0
  Rest origin = InRangeXn version (xns.HandoverRequest ue instance epoch bearers sn quota peer du origin)

  handover_without : Rest None → Has [] (xn_type version) (written_xn (xns.HandoverRequest ue instance epoch bearers sn quota peer du None))
  unfolding xn_type tree parts rows procedures outcome_tree written_xn layout row_fields body_fields outcome_fields Has HasRow HasBody HasOutcome
  handover_without h = (
    omega arith,
    omega arith,
    message_made uses (fields.outcome 0 ∷ []) its_fields
        (one 72 refl (omega arith) (always (from_ue ue) true) (given p (fields.element 1 ∷ p) (tree types.ue) (from_ue ue) 41 (ue_good (fields.element 1 ∷ p) ue.0 h.0) (omega arith))
        (one 72 refl (omega arith) (always (from_number instance) true) (given p (fields.element 2 ∷ p) (tree types.word) (from_number instance) 41 (word_good (fields.element 2 ∷ p) instance h.1) (omega arith))
        (one 72 refl (omega arith) (always (from_number epoch) true) (given p (fields.element 3 ∷ p) (tree types.word) (from_number epoch) 41 (word_good (fields.element 3 ∷ p) epoch h.2) (omega arith))
        (one 72 refl (omega arith) (always (from_number bearers) true) (given p (fields.element 4 ∷ p) (tree types.bearer) (from_number bearers) 41 (bearer_good (fields.element 4 ∷ p) bearers h.3) (omega arith))
        (one 72 refl (omega arith) (always (from_sn sn) true) (given p (fields.element 9 ∷ p) (tree types.sn_bits) (from_sn sn) 41 (sn_good (fields.element 9 ∷ p) sn) (omega arith))
        (one 72 refl (omega arith) (always (from_number quota) true) (given p (fields.element 10 ∷ p) (tree types.quota) (from_number quota) 41 (quota_good (fields.element 10 ∷ p) quota h.4) (omega arith))
        (one 121 refl (omega arith) (always (from_peer peer) true) (given p (fields.element 12 ∷ p) (tree compounds.peer) (from_peer peer) 90 (peer_good (fields.element 12 ∷ p) peer h.5) (omega arith))
        (one 72 refl (omega arith) (always (from_number du) true) (given p (fields.element 19 ∷ p) (tree types.unit) (from_number du) 41 (unit_good (fields.element 19 ∷ p) du h.6) (omega arith)) none))))))))
        refl (omega arith) (parts (additions_if (version == 2))) no_options 0 tt (none_has (fields.outcome 0 ∷ []) (version == 2))
        (none_short (fields.outcome 0 ∷ []) (version == 2)) (omega arith),
  )

  handover_named : (origin : List ℕ) → Rest (Some origin)
      → Has [] (xn_type 2) (written_xn (xns.HandoverRequest ue instance epoch bearers sn quota peer du (Some origin)))
  unfolding xn_type tree parts rows procedures outcome_tree written_xn layout row_fields body_fields outcome_fields Has HasRow HasBody HasOutcome
  handover_named origin h = (
    omega arith,
    omega arith,
    message_made uses (fields.outcome 0 ∷ []) its_fields
        (one 72 refl (omega arith) (always (from_ue ue) true) (given p (fields.element 1 ∷ p) (tree types.ue) (from_ue ue) 41 (ue_good (fields.element 1 ∷ p) ue.0 h.0) (omega arith))
        (one 72 refl (omega arith) (always (from_number instance) true) (given p (fields.element 2 ∷ p) (tree types.word) (from_number instance) 41 (word_good (fields.element 2 ∷ p) instance h.1) (omega arith))
        (one 72 refl (omega arith) (always (from_number epoch) true) (given p (fields.element 3 ∷ p) (tree types.word) (from_number epoch) 41 (word_good (fields.element 3 ∷ p) epoch h.2) (omega arith))
        (one 72 refl (omega arith) (always (from_number bearers) true) (given p (fields.element 4 ∷ p) (tree types.bearer) (from_number bearers) 41 (bearer_good (fields.element 4 ∷ p) bearers h.3) (omega arith))
        (one 72 refl (omega arith) (always (from_sn sn) true) (given p (fields.element 9 ∷ p) (tree types.sn_bits) (from_sn sn) 41 (sn_good (fields.element 9 ∷ p) sn) (omega arith))
        (one 72 refl (omega arith) (always (from_number quota) true) (given p (fields.element 10 ∷ p) (tree types.quota) (from_number quota) 41 (quota_good (fields.element 10 ∷ p) quota h.4) (omega arith))
        (one 121 refl (omega arith) (always (from_peer peer) true) (given p (fields.element 12 ∷ p) (tree compounds.peer) (from_peer peer) 90 (peer_good (fields.element 12 ∷ p) peer h.5) (omega arith))
        (one 72 refl (omega arith) (always (from_number du) true) (given p (fields.element 19 ∷ p) (tree types.unit) (from_number du) 41 (unit_good (fields.element 19 ∷ p) du h.6) (omega arith)) none))))))))
        refl (omega arith) (parts (additions_if true)) (present (text origin) no_options) 128070 (refl, omega arith, refl)
        (origin_has (fields.outcome 0 ∷ []) origin h.7.1) (origin_short (fields.outcome 0 ∷ []) origin h.7.1) (omega arith),
  )

  handover_with : (origin : List ℕ) → Rest (Some origin)
      → Has [] (xn_type version) (written_xn (xns.HandoverRequest ue instance epoch bearers sn quota peer du (Some origin)))
  handover_with origin h =
      subst (λ n. Has [] (xn_type n) (written_xn (xns.HandoverRequest ue instance epoch bearers sn quota peer du (Some origin)))) (sym h.7.0)
      (handover_named origin h)

pub in_range : (version : ℕ) (msg : XnMessage) → InRangeXn version msg → Has [] (xn_type version) (written_xn msg)
unfolding xn_type tree parts rows procedures outcome_tree written_xn layout row_fields body_fields outcome_fields Has HasRow HasBody HasOutcome
in_range version (xns.HandoverRequest ue instance epoch bearers sn quota peer du None) h = handover_without version ue instance epoch bearers sn quota peer du h
in_range version (xns.HandoverRequest ue instance epoch bearers sn quota peer du (Some origin)) h = handover_with version ue instance epoch bearers sn quota peer du origin h
in_range version (xns.HandoverRequestAcknowledge ue instance peer forward_down forward_up) h =
    let p : Path = fields.component (codes "protocolIEs") ∷ fields.outcome 1 ∷ [] in
    let uses : List Use = handover_request_acknowledge.elements in (
      omega arith,
      omega arith,
      message_good uses (fields.outcome 1 ∷ [])
          (has ies.ue (from_ue ue) ∷ has ies.instance (from_number instance) ∷ has ies.peer (from_peer peer) ∷ has ies.forward_down (from_tunnels forward_down) ∷ has ies.forward_up (from_tunnels forward_up) ∷ [])
          (one 72 refl (omega arith) (always (from_ue ue) true) (given p (fields.element 1 ∷ p) (tree types.ue) (from_ue ue) 41 (ue_good (fields.element 1 ∷ p) ue.0 h.0) (omega arith))
          (one 72 refl (omega arith) (always (from_number instance) true) (given p (fields.element 2 ∷ p) (tree types.word) (from_number instance) 41 (word_good (fields.element 2 ∷ p) instance h.1) (omega arith))
          (one 121 refl (omega arith) (always (from_peer peer) true) (given p (fields.element 12 ∷ p) (tree compounds.peer) (from_peer peer) 90 (peer_good (fields.element 12 ∷ p) peer h.2) (omega arith))
          (one 774 refl (omega arith) (always (from_tunnels forward_down) true) (given p (fields.element 14 ∷ p) (tree compounds.tunnels) (from_tunnels forward_down) 743 (tunnels_good (fields.element 14 ∷ p) forward_down h.3) (omega arith))
          (one 774 refl (omega arith) (always (from_tunnels forward_up) true) (given p (fields.element 15 ∷ p) (tree compounds.tunnels) (from_tunnels forward_up) 743 (tunnels_good (fields.element 15 ∷ p) forward_up h.4) (omega arith)) none)))))
          refl (omega arith) (omega arith),
    )
in_range version (xns.HandoverPreparationFailure ue instance cause) h =
    let p : Path = fields.component (codes "protocolIEs") ∷ fields.outcome 2 ∷ [] in
    let uses : List Use = handover_preparation_failure.elements in (
      omega arith,
      omega arith,
      message_good uses (fields.outcome 2 ∷ [])
          (has ies.ue (from_ue ue) ∷ has ies.instance (from_number instance) ∷ has ies.cause (enumeral cause) ∷ [])
          (one 72 refl (omega arith) (always (from_ue ue) true) (given p (fields.element 1 ∷ p) (tree types.ue) (from_ue ue) 41 (ue_good (fields.element 1 ∷ p) ue.0 h.0) (omega arith))
          (one 72 refl (omega arith) (always (from_number instance) true) (given p (fields.element 2 ∷ p) (tree types.word) (from_number instance) 41 (word_good (fields.element 2 ∷ p) instance h.1) (omega arith))
          (one 72 refl (omega arith) (always (enumeral cause) true) (given p (fields.element 8 ∷ p) (tree types.cause) (enumeral cause) 41 (cause_good (fields.element 8 ∷ p) cause h.2) (omega arith)) none)))
          refl (omega arith) (omega arith),
    )
in_range version (xns.SnStatusTransfer ue instance statuses) h =
    let p : Path = fields.component (codes "protocolIEs") ∷ fields.outcome 0 ∷ [] in
    let uses : List Use = sn_status_transfer.elements in (
      omega arith,
      omega arith,
      message_good uses (fields.outcome 0 ∷ [])
          (has ies.ue (from_ue ue) ∷ has ies.instance (from_number instance) ∷ has ies.statuses (from_statuses statuses) ∷ [])
          (one 72 refl (omega arith) (always (from_ue ue) true) (given p (fields.element 1 ∷ p) (tree types.ue) (from_ue ue) 41 (ue_good (fields.element 1 ∷ p) ue.0 h.0) (omega arith))
          (one 72 refl (omega arith) (always (from_number instance) true) (given p (fields.element 2 ∷ p) (tree types.word) (from_number instance) 41 (word_good (fields.element 2 ∷ p) instance h.1) (omega arith))
          (one 34134 refl (omega arith) (always (from_statuses statuses) true) (given p (fields.element 16 ∷ p) (tree compounds.statuses) (from_statuses statuses) 34103 (statuses_good (fields.element 16 ∷ p) statuses h.2) (omega arith)) none)))
          refl (omega arith) (omega arith),
    )
in_range version (xns.HandoverCancel ue instance) h =
    let p : Path = fields.component (codes "protocolIEs") ∷ fields.outcome 0 ∷ [] in
    let uses : List Use = handover_cancel.elements in (
      omega arith,
      omega arith,
      message_good uses (fields.outcome 0 ∷ [])
          (has ies.ue (from_ue ue) ∷ has ies.instance (from_number instance) ∷ [])
          (one 72 refl (omega arith) (always (from_ue ue) true) (given p (fields.element 1 ∷ p) (tree types.ue) (from_ue ue) 41 (ue_good (fields.element 1 ∷ p) ue.0 h.0) (omega arith))
          (one 72 refl (omega arith) (always (from_number instance) true) (given p (fields.element 2 ∷ p) (tree types.word) (from_number instance) 41 (word_good (fields.element 2 ∷ p) instance h.1) (omega arith)) none))
          refl (omega arith) (omega arith),
    )
in_range version (xns.UeContextRelease ue instance) h =
    let p : Path = fields.component (codes "protocolIEs") ∷ fields.outcome 0 ∷ [] in
    let uses : List Use = ue_context_release.elements in (
      omega arith,
      omega arith,
      message_good uses (fields.outcome 0 ∷ [])
          (has ies.ue (from_ue ue) ∷ has ies.instance (from_number instance) ∷ [])
          (one 72 refl (omega arith) (always (from_ue ue) true) (given p (fields.element 1 ∷ p) (tree types.ue) (from_ue ue) 41 (ue_good (fields.element 1 ∷ p) ue.0 h.0) (omega arith))
          (one 72 refl (omega arith) (always (from_number instance) true) (given p (fields.element 2 ∷ p) (tree types.word) (from_number instance) 41 (word_good (fields.element 2 ∷ p) instance h.1) (omega arith)) none))
          refl (omega arith) (omega arith),
    )
in_range version (xns.TransportConfirm ue instance) h =
    let p : Path = fields.component (codes "protocolIEs") ∷ fields.outcome 0 ∷ [] in
    let uses : List Use = transport_confirm.elements in (
      omega arith,
      omega arith,
      message_good uses (fields.outcome 0 ∷ [])
          (has ies.ue (from_ue ue) ∷ has ies.instance (from_number instance) ∷ [])
          (one 72 refl (omega arith) (always (from_ue ue) true) (given p (fields.element 1 ∷ p) (tree types.ue) (from_ue ue) 41 (ue_good (fields.element 1 ∷ p) ue.0 h.0) (omega arith))
          (one 72 refl (omega arith) (always (from_number instance) true) (given p (fields.element 2 ∷ p) (tree types.word) (from_number instance) 41 (word_good (fields.element 2 ∷ p) instance h.1) (omega arith)) none))
          refl (omega arith) (omega arith),
    )
