-- What is written in version 1 is spelled as in version 2.
use Rattle.std.proofs.Common.{ℕ, List, Some, None}
use Rattle.message_types.specs.declared.xn.XnMessage.{XnMessage}
use Rattle.message_types.specs.declared.xn.XnMessage.TheVariants as xns
use Rattle.aper_defs.specs.Layouts.{layout, addition_fields, body_fields, outcome_fields}
use Rattle.aper_defs.specs.Membership.{Has, HasAdditions, HasBody, HasOutcome}
use Rattle.aper_defs.specs.Spelling.{Spells}
use Rattle.message_defs.specs.profile_defs.Forms.{tree, parts, rows, procedures, outcome_tree}
use Rattle.message_defs.specs.profile_defs.Profile.{xn_type}
use Rattle.message_defs.specs.Xn.{written_xn}

-- both versions have the same values but for the origin, and the same layouts
pub spelled_newer : (msg : XnMessage) (octets : List ℕ) → Spells (xn_type 1) (written_xn msg) octets → Spells (xn_type 2) (written_xn msg) octets
unfolding xn_type tree parts rows procedures outcome_tree written_xn layout addition_fields body_fields outcome_fields Has HasAdditions HasBody HasOutcome
spelled_newer (xns.HandoverRequest ue instance epoch bearers sn quota peer du None) octets s = record { has = s.has; bits = s.bits; short = s.short }
spelled_newer (xns.HandoverRequest ue instance epoch bearers sn quota peer du (Some origin)) octets s = absurd s.has.2.0.2.0
spelled_newer (xns.HandoverRequestAcknowledge ue instance peer forward_down forward_up) octets s = record { has = s.has; bits = s.bits; short = s.short }
spelled_newer (xns.HandoverPreparationFailure ue instance cause) octets s = record { has = s.has; bits = s.bits; short = s.short }
spelled_newer (xns.SnStatusTransfer ue instance statuses) octets s = record { has = s.has; bits = s.bits; short = s.short }
spelled_newer (xns.HandoverCancel ue instance) octets s = record { has = s.has; bits = s.bits; short = s.short }
spelled_newer (xns.UeContextRelease ue instance) octets s = record { has = s.has; bits = s.bits; short = s.short }
spelled_newer (xns.TransportConfirm ue instance) octets s = record { has = s.has; bits = s.bits; short = s.short }
