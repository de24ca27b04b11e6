-- CoreMessage: messages whose fields lie in their ranges are written as values of their type.
use Rattle.std.proofs.Common.{true, List, [], ◌∷◌, refl, arith}
use Rattle.std.specs.Prelude.{codes}
use Rattle.message_types.specs.declared.xn.CoreMessage.TheVariants as cores
use Rattle.message_types.specs.declared.xn.CoreMessage.{CoreMessage}
use Rattle.aper_defs.specs.Fields.{Path}
use Rattle.aper_defs.specs.Fields as fields
use Rattle.aper_defs.specs.Layouts.{layout, row_fields, body_fields, outcome_fields}
use Rattle.aper_defs.specs.Membership.{Has, HasRow, HasBody, HasOutcome}
use Rattle.message_defs.specs.profile_defs.Forms.{tree, parts, rows, procedures, outcome_tree}
use Rattle.message_defs.specs.profile_defs.BaseTypes as types
use Rattle.message_defs.specs.profile_defs.Compounds as compounds
use Rattle.message_defs.specs.profile_defs.Elements as ies
use Rattle.message_defs.specs.profile_defs.Tables.{Use}
use Rattle.message_defs.specs.profile_defs.Messages.{path_switch_request, path_switch_acknowledge}
use Rattle.message_defs.specs.profile_defs.Profile.{core_type}
use Rattle.message_defs.specs.Fields.{from_number, from_ue, from_peer, from_tunnels}
use Rattle.message_defs.specs.Places.{has}
use Rattle.message_defs.specs.Core.{written_core}
use Rattle.law_messages.specs.message_ranges.Ranges.{InRangeCore}
use Rattle.law_messages.proofs.message_ranges.Goods.{ue_good, word_good, peer_good, tunnels_good}
use Rattle.law_messages.proofs.message_ranges.Bodies.{none, one, given, always, message_good}

pub in_range : (msg : CoreMessage) → InRangeCore msg → Has [] core_type (written_core msg)
unfolding core_type tree parts rows procedures outcome_tree written_core layout row_fields body_fields outcome_fields Has HasRow HasBody HasOutcome
in_range (cores.PathSwitchRequest ue instance peer n3) h =
    let p : Path = fields.component (codes "protocolIEs") ∷ fields.outcome 0 ∷ [] in
    let uses : List Use = path_switch_request.elements in (
      omega arith,
      omega arith,
      message_good uses (fields.outcome 0 ∷ [])
          (has ies.ue (from_ue ue) ∷ has ies.instance (from_number instance) ∷ has ies.peer (from_peer peer) ∷ has ies.n3 (from_tunnels n3) ∷ [])
          (one 72 refl (omega arith) (always (from_ue ue) true) (given p (fields.element 1 ∷ p) (tree types.ue) (from_ue ue) 41 (ue_good (fields.element 1 ∷ p) ue.0 h.0) (omega arith))
          (one 72 refl (omega arith) (always (from_number instance) true) (given p (fields.element 2 ∷ p) (tree types.word) (from_number instance) 41 (word_good (fields.element 2 ∷ p) instance h.1) (omega arith))
          (one 121 refl (omega arith) (always (from_peer peer) true) (given p (fields.element 12 ∷ p) (tree compounds.peer) (from_peer peer) 90 (peer_good (fields.element 12 ∷ p) peer h.2) (omega arith))
          (one 774 refl (omega arith) (always (from_tunnels n3) true) (given p (fields.element 13 ∷ p) (tree compounds.tunnels) (from_tunnels n3) 743 (tunnels_good (fields.element 13 ∷ p) n3 h.3) (omega arith)) none))))
          refl (omega arith) (omega arith),
    )
in_range (cores.PathSwitchAcknowledge ue instance) h =
    let p : Path = fields.component (codes "protocolIEs") ∷ fields.outcome 1 ∷ [] in
    let uses : List Use = path_switch_acknowledge.elements in (
      omega arith,
      omega arith,
      message_good uses (fields.outcome 1 ∷ [])
          (has ies.ue (from_ue ue) ∷ has ies.instance (from_number instance) ∷ [])
          (one 72 refl (omega arith) (always (from_ue ue) true) (given p (fields.element 1 ∷ p) (tree types.ue) (from_ue ue) 41 (ue_good (fields.element 1 ∷ p) ue.0 h.0) (omega arith))
          (one 72 refl (omega arith) (always (from_number instance) true) (given p (fields.element 2 ∷ p) (tree types.word) (from_number instance) 41 (word_good (fields.element 2 ∷ p) instance h.1) (omega arith)) none))
          refl (omega arith) (omega arith),
    )
