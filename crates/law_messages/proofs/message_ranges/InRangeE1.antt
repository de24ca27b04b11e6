-- E1Message: messages whose fields lie in their ranges are written as values of their type.
use Rattle.std.proofs.Common.{true, List, [], ◌∷◌, refl, arith}
use Rattle.std.specs.Prelude.{codes}
use Rattle.message_types.specs.declared.e1.E1Message.TheVariants as e1s
use Rattle.message_types.specs.declared.e1.E1Message.{E1Message}
use Rattle.aper_defs.specs.Values.{truth, enumeral, text}
use Rattle.aper_defs.specs.Fields.{Path}
use Rattle.aper_defs.specs.Fields as fields
use Rattle.aper_defs.specs.Layouts.{layout, row_fields, body_fields, outcome_fields}
use Rattle.aper_defs.specs.Membership.{Has, HasRow, HasBody, HasOutcome}
use Rattle.message_defs.specs.profile_defs.Forms.{tree, parts, rows, procedures, outcome_tree}
use Rattle.message_defs.specs.profile_defs.BaseTypes as types
use Rattle.message_defs.specs.profile_defs.Compounds as compounds
use Rattle.message_defs.specs.profile_defs.Elements as ies
use Rattle.message_defs.specs.profile_defs.Tables.{Use}
use Rattle.message_defs.specs.profile_defs.Messages.{e1_setup_request, e1_setup_response, bearer_context_setup_request, bearer_context_setup_response, bearer_context_setup_failure, bearer_context_modification_request, bearer_context_modification_response, bearer_context_modification_failure, bearer_context_release_command, bearer_context_release_complete}
use Rattle.message_defs.specs.profile_defs.Profile.{e1_type}
use Rattle.message_defs.specs.Fields.{from_number, from_ue, from_sn, from_peer, from_tunnels, from_statuses}
use Rattle.message_defs.specs.Places.{has, may_have}
use Rattle.message_defs.specs.E1.{written_e1}
use Rattle.law_messages.specs.message_ranges.Ranges.{is_peer, is_unit, are_tunnels, are_statuses, InRangeE1}
use Rattle.law_messages.proofs.message_ranges.Goods.{ue_good, word_good, bearer_good, quota_good, unit_good, cause_good, mode_good, peer_good, name_good, tunnels_good, statuses_good, sn_good, flag_good}
use Rattle.law_messages.proofs.message_ranges.Bodies.{none, one, given, maybe, always, message_good}

pub in_range : (msg : E1Message) → InRangeE1 msg → Has [] e1_type (written_e1 msg)
unfolding e1_type tree parts rows procedures outcome_tree written_e1 layout row_fields body_fields outcome_fields Has HasRow HasBody HasOutcome
in_range (e1s.E1SetupRequest instance name) h =
    let p : Path = fields.component (codes "protocolIEs") ∷ fields.outcome 0 ∷ [] in
    let uses : List Use = e1_setup_request.elements in (
      omega arith,
      omega arith,
      message_good uses (fields.outcome 0 ∷ [])
          (has ies.instance (from_number instance) ∷ has ies.name (text name) ∷ [])
          (one 72 refl (omega arith) (always (from_number instance) true) (given p (fields.element 2 ∷ p) (tree types.word) (from_number instance) 41 (word_good (fields.element 2 ∷ p) instance h.0) (omega arith))
          (one 128062 refl (omega arith) (always (text name) true) (given p (fields.element 17 ∷ p) (tree types.name) (text name) 128031 (name_good (fields.element 17 ∷ p) name h.1) (omega arith)) none))
          refl (omega arith) (omega arith),
    )
in_range (e1s.E1SetupResponse instance) h =
    let p : Path = fields.component (codes "protocolIEs") ∷ fields.outcome 1 ∷ [] in
    let uses : List Use = e1_setup_response.elements in (
      omega arith,
      omega arith,
      message_good uses (fields.outcome 1 ∷ [])
          (has ies.instance (from_number instance) ∷ [])
          (one 72 refl (omega arith) (always (from_number instance) true) (given p (fields.element 2 ∷ p) (tree types.word) (from_number instance) 41 (word_good (fields.element 2 ∷ p) instance h) (omega arith)) none)
          refl (omega arith) (omega arith),
    )
in_range (e1s.BearerContextSetupRequest ue instance bearers sn quota forward) h =
    let p : Path = fields.component (codes "protocolIEs") ∷ fields.outcome 0 ∷ [] in
    let uses : List Use = bearer_context_setup_request.elements in (
      omega arith,
      omega arith,
      message_good uses (fields.outcome 0 ∷ [])
          (has ies.ue (from_ue ue) ∷ has ies.instance (from_number instance) ∷ has ies.bearers (from_number bearers) ∷ has ies.sn (from_sn sn) ∷ has ies.quota (from_number quota) ∷ has ies.forward (truth forward) ∷ [])
          (one 72 refl (omega arith) (always (from_ue ue) true) (given p (fields.element 1 ∷ p) (tree types.ue) (from_ue ue) 41 (ue_good (fields.element 1 ∷ p) ue.0 h.0) (omega arith))
          (one 72 refl (omega arith) (always (from_number instance) true) (given p (fields.element 2 ∷ p) (tree types.word) (from_number instance) 41 (word_good (fields.element 2 ∷ p) instance h.1) (omega arith))
          (one 72 refl (omega arith) (always (from_number bearers) true) (given p (fields.element 4 ∷ p) (tree types.bearer) (from_number bearers) 41 (bearer_good (fields.element 4 ∷ p) bearers h.2) (omega arith))
          (one 72 refl (omega arith) (always (from_sn sn) true) (given p (fields.element 9 ∷ p) (tree types.sn_bits) (from_sn sn) 41 (sn_good (fields.element 9 ∷ p) sn) (omega arith))
          (one 72 refl (omega arith) (always (from_number quota) true) (given p (fields.element 10 ∷ p) (tree types.quota) (from_number quota) 41 (quota_good (fields.element 10 ∷ p) quota h.3) (omega arith))
          (one 72 refl (omega arith) (always (truth forward) true) (given p (fields.element 18 ∷ p) (tree types.flag) (truth forward) 41 (flag_good (fields.element 18 ∷ p) forward) (omega arith)) none))))))
          refl (omega arith) (omega arith),
    )
in_range (e1s.BearerContextSetupResponse ue instance uplinks n3 forward_down forward_up) h =
    let p : Path = fields.component (codes "protocolIEs") ∷ fields.outcome 1 ∷ [] in
    let uses : List Use = bearer_context_setup_response.elements in (
      omega arith,
      omega arith,
      message_good uses (fields.outcome 1 ∷ [])
          (has ies.ue (from_ue ue) ∷ has ies.instance (from_number instance) ∷ has ies.uplinks (from_tunnels uplinks) ∷ has ies.n3 (from_tunnels n3) ∷ may_have ies.forward_down from_tunnels forward_down ∷ may_have ies.forward_up from_tunnels forward_up ∷ [])
          (one 72 refl (omega arith) (always (from_ue ue) true) (given p (fields.element 1 ∷ p) (tree types.ue) (from_ue ue) 41 (ue_good (fields.element 1 ∷ p) ue.0 h.0) (omega arith))
          (one 72 refl (omega arith) (always (from_number instance) true) (given p (fields.element 2 ∷ p) (tree types.word) (from_number instance) 41 (word_good (fields.element 2 ∷ p) instance h.1) (omega arith))
          (one 774 refl (omega arith) (always (from_tunnels uplinks) true) (given p (fields.element 5 ∷ p) (tree compounds.tunnels) (from_tunnels uplinks) 743 (tunnels_good (fields.element 5 ∷ p) uplinks h.2) (omega arith))
          (one 774 refl (omega arith) (always (from_tunnels n3) true) (given p (fields.element 13 ∷ p) (tree compounds.tunnels) (from_tunnels n3) 743 (tunnels_good (fields.element 13 ∷ p) n3 h.3) (omega arith))
          (one 774 refl (omega arith) (λ e. refl) (maybe p (fields.element 14 ∷ p) (tree compounds.tunnels) from_tunnels are_tunnels 743 (tunnels_good (fields.element 14 ∷ p)) (omega arith) forward_down h.4)
          (one 774 refl (omega arith) (λ e. refl) (maybe p (fields.element 15 ∷ p) (tree compounds.tunnels) from_tunnels are_tunnels 743 (tunnels_good (fields.element 15 ∷ p)) (omega arith) forward_up h.5) none))))))
          refl (omega arith) (omega arith),
    )
in_range (e1s.BearerContextSetupFailure ue instance cause) h =
    let p : Path = fields.component (codes "protocolIEs") ∷ fields.outcome 2 ∷ [] in
    let uses : List Use = bearer_context_setup_failure.elements in (
      omega arith,
      omega arith,
      message_good uses (fields.outcome 2 ∷ [])
          (has ies.ue (from_ue ue) ∷ has ies.instance (from_number instance) ∷ has ies.cause (enumeral cause) ∷ [])
          (one 72 refl (omega arith) (always (from_ue ue) true) (given p (fields.element 1 ∷ p) (tree types.ue) (from_ue ue) 41 (ue_good (fields.element 1 ∷ p) ue.0 h.0) (omega arith))
          (one 72 refl (omega arith) (always (from_number instance) true) (given p (fields.element 2 ∷ p) (tree types.word) (from_number instance) 41 (word_good (fields.element 2 ∷ p) instance h.1) (omega arith))
          (one 72 refl (omega arith) (always (enumeral cause) true) (given p (fields.element 8 ∷ p) (tree types.cause) (enumeral cause) 41 (cause_good (fields.element 8 ∷ p) cause h.2) (omega arith)) none)))
          refl (omega arith) (omega arith),
    )
in_range (e1s.BearerContextModificationRequest ue instance downlinks mode peer forward_down forward_up statuses du) h =
    let p : Path = fields.component (codes "protocolIEs") ∷ fields.outcome 0 ∷ [] in
    let uses : List Use = bearer_context_modification_request.elements in (
      omega arith,
      omega arith,
      message_good uses (fields.outcome 0 ∷ [])
          (has ies.ue (from_ue ue) ∷ has ies.instance (from_number instance) ∷ may_have ies.downlinks from_tunnels downlinks ∷ has ies.mode (enumeral mode) ∷ may_have ies.peer from_peer peer ∷ may_have ies.forward_down from_tunnels forward_down ∷ may_have ies.forward_up from_tunnels forward_up ∷ may_have ies.statuses from_statuses statuses ∷ may_have ies.du from_number du ∷ [])
          (one 72 refl (omega arith) (always (from_ue ue) true) (given p (fields.element 1 ∷ p) (tree types.ue) (from_ue ue) 41 (ue_good (fields.element 1 ∷ p) ue.0 h.0) (omega arith))
          (one 72 refl (omega arith) (always (from_number instance) true) (given p (fields.element 2 ∷ p) (tree types.word) (from_number instance) 41 (word_good (fields.element 2 ∷ p) instance h.1) (omega arith))
          (one 774 refl (omega arith) (λ e. refl) (maybe p (fields.element 6 ∷ p) (tree compounds.tunnels) from_tunnels are_tunnels 743 (tunnels_good (fields.element 6 ∷ p)) (omega arith) downlinks h.2)
          (one 72 refl (omega arith) (always (enumeral mode) true) (given p (fields.element 11 ∷ p) (tree types.mode) (enumeral mode) 41 (mode_good (fields.element 11 ∷ p) mode h.3) (omega arith))
          (one 121 refl (omega arith) (λ e. refl) (maybe p (fields.element 12 ∷ p) (tree compounds.peer) from_peer is_peer 90 (peer_good (fields.element 12 ∷ p)) (omega arith) peer h.4)
          (one 774 refl (omega arith) (λ e. refl) (maybe p (fields.element 14 ∷ p) (tree compounds.tunnels) from_tunnels are_tunnels 743 (tunnels_good (fields.element 14 ∷ p)) (omega arith) forward_down h.5)
          (one 774 refl (omega arith) (λ e. refl) (maybe p (fields.element 15 ∷ p) (tree compounds.tunnels) from_tunnels are_tunnels 743 (tunnels_good (fields.element 15 ∷ p)) (omega arith) forward_up h.6)
          (one 34134 refl (omega arith) (λ e. refl) (maybe p (fields.element 16 ∷ p) (tree compounds.statuses) from_statuses are_statuses 34103 (statuses_good (fields.element 16 ∷ p)) (omega arith) statuses h.7)
          (one 72 refl (omega arith) (λ e. refl) (maybe p (fields.element 19 ∷ p) (tree types.unit) from_number is_unit 41 (unit_good (fields.element 19 ∷ p)) (omega arith) du h.8) none)))))))))
          refl (omega arith) (omega arith),
    )
in_range (e1s.BearerContextModificationResponse ue instance uplinks statuses) h =
    let p : Path = fields.component (codes "protocolIEs") ∷ fields.outcome 1 ∷ [] in
    let uses : List Use = bearer_context_modification_response.elements in (
      omega arith,
      omega arith,
      message_good uses (fields.outcome 1 ∷ [])
          (has ies.ue (from_ue ue) ∷ has ies.instance (from_number instance) ∷ may_have ies.uplinks from_tunnels uplinks ∷ may_have ies.statuses from_statuses statuses ∷ [])
          (one 72 refl (omega arith) (always (from_ue ue) true) (given p (fields.element 1 ∷ p) (tree types.ue) (from_ue ue) 41 (ue_good (fields.element 1 ∷ p) ue.0 h.0) (omega arith))
          (one 72 refl (omega arith) (always (from_number instance) true) (given p (fields.element 2 ∷ p) (tree types.word) (from_number instance) 41 (word_good (fields.element 2 ∷ p) instance h.1) (omega arith))
          (one 774 refl (omega arith) (λ e. refl) (maybe p (fields.element 5 ∷ p) (tree compounds.tunnels) from_tunnels are_tunnels 743 (tunnels_good (fields.element 5 ∷ p)) (omega arith) uplinks h.2)
          (one 34134 refl (omega arith) (λ e. refl) (maybe p (fields.element 16 ∷ p) (tree compounds.statuses) from_statuses are_statuses 34103 (statuses_good (fields.element 16 ∷ p)) (omega arith) statuses h.3) none))))
          refl (omega arith) (omega arith),
    )
in_range (e1s.BearerContextModificationFailure ue instance cause) h =
    let p : Path = fields.component (codes "protocolIEs") ∷ fields.outcome 2 ∷ [] in
    let uses : List Use = bearer_context_modification_failure.elements in (
      omega arith,
      omega arith,
      message_good uses (fields.outcome 2 ∷ [])
          (has ies.ue (from_ue ue) ∷ has ies.instance (from_number instance) ∷ has ies.cause (enumeral cause) ∷ [])
          (one 72 refl (omega arith) (always (from_ue ue) true) (given p (fields.element 1 ∷ p) (tree types.ue) (from_ue ue) 41 (ue_good (fields.element 1 ∷ p) ue.0 h.0) (omega arith))
          (one 72 refl (omega arith) (always (from_number instance) true) (given p (fields.element 2 ∷ p) (tree types.word) (from_number instance) 41 (word_good (fields.element 2 ∷ p) instance h.1) (omega arith))
          (one 72 refl (omega arith) (always (enumeral cause) true) (given p (fields.element 8 ∷ p) (tree types.cause) (enumeral cause) 41 (cause_good (fields.element 8 ∷ p) cause h.2) (omega arith)) none)))
          refl (omega arith) (omega arith),
    )
in_range (e1s.BearerContextReleaseCommand ue instance is_final) h =
    let p : Path = fields.component (codes "protocolIEs") ∷ fields.outcome 0 ∷ [] in
    let uses : List Use = bearer_context_release_command.elements in (
      omega arith,
      omega arith,
      message_good uses (fields.outcome 0 ∷ [])
          (has ies.ue (from_ue ue) ∷ has ies.instance (from_number instance) ∷ has ies.is_final (truth is_final) ∷ [])
          (one 72 refl (omega arith) (always (from_ue ue) true) (given p (fields.element 1 ∷ p) (tree types.ue) (from_ue ue) 41 (ue_good (fields.element 1 ∷ p) ue.0 h.0) (omega arith))
          (one 72 refl (omega arith) (always (from_number instance) true) (given p (fields.element 2 ∷ p) (tree types.word) (from_number instance) 41 (word_good (fields.element 2 ∷ p) instance h.1) (omega arith))
          (one 72 refl (omega arith) (always (truth is_final) true) (given p (fields.element 20 ∷ p) (tree types.flag) (truth is_final) 41 (flag_good (fields.element 20 ∷ p) is_final) (omega arith)) none)))
          refl (omega arith) (omega arith),
    )
in_range (e1s.BearerContextReleaseComplete ue instance) h =
    let p : Path = fields.component (codes "protocolIEs") ∷ fields.outcome 1 ∷ [] in
    let uses : List Use = bearer_context_release_complete.elements in (
      omega arith,
      omega arith,
      message_good uses (fields.outcome 1 ∷ [])
          (has ies.ue (from_ue ue) ∷ has ies.instance (from_number instance) ∷ [])
          (one 72 refl (omega arith) (always (from_ue ue) true) (given p (fields.element 1 ∷ p) (tree types.ue) (from_ue ue) 41 (ue_good (fields.element 1 ∷ p) ue.0 h.0) (omega arith))
          (one 72 refl (omega arith) (always (from_number instance) true) (given p (fields.element 2 ∷ p) (tree types.word) (from_number instance) 41 (word_good (fields.element 2 ∷ p) instance h.1) (omega arith)) none))
          refl (omega arith) (omega arith),
    )
