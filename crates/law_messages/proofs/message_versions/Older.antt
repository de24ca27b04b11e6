-- What is written in version 2 is in version 1 a spelling of the same, with the origin as octets that aren't known.
use Rattle.std.proofs.Common.{◌≡◌, ℕ, ◌*◌, ◌≤◌, Bool, List, [], ◌∷◌, length, Some, None, Result, Ok, refl, sym, ap, subst, ◌∙◌, arith}
use Rattle.std.specs.Prelude.{codes, true, false}
use Rattle.bits_core.specs.Bits.{octet_bits}
use Rattle.gnb_types.specs.declared.names.SnBits.{SnBits}
use Rattle.gnb_types.specs.declared.names.UeId.{UeId}
use Rattle.gnb_types.specs.declared.plans.Peer.{Peer}
use Rattle.message_types.specs.declared.xn.XnMessage.{XnMessage}
use Rattle.message_types.specs.declared.xn.XnMessage.TheVariants as xns
use Rattle.aper_defs.specs.Trees.{Parts, no_parts, part, sequence}
use Rattle.aper_defs.specs.Values.{Value, Options, text, raw, components, elements, no_options, present}
use Rattle.aper_defs.specs.Fields.{Path, Field, closing, asked}
use Rattle.aper_defs.specs.Fields as fields
use Rattle.aper_defs.specs.Bits.{put_all, closed, octet_count}
use Rattle.aper_defs.specs.Layouts.{layout, addition_fields, body_fields, outcome_fields, message_head}
use Rattle.aper_defs.specs.Membership.{Has, HasAdditions, HasBody, HasOutcome, IsRaw}
use Rattle.aper_defs.specs.Spelling.{Spells}
use Rattle.proof_aper.proofs.places.Bits.{total-append}
use Rattle.proof_aper.proofs.places.Opened.{empty_mark, size_is, closing_is, octets_are, octets_some}
use Rattle.aper_defs.specs.octet_defs.Octets.{octets_of}
use Rattle.proof_aper.proofs.octets.Octets.{octets_of_bits, octets_of_count}
use Rattle.message_defs.specs.profile_defs.Forms.{component, container, no_components, tree, parts, rows, procedures, outcome_tree}
use Rattle.message_defs.specs.profile_defs.BaseTypes as types
use Rattle.message_defs.specs.profile_defs.Elements as ies
use Rattle.message_defs.specs.profile_defs.Tables.{element_rows}
use Rattle.message_defs.specs.profile_defs.Messages.{handover_request}
use Rattle.message_defs.specs.profile_defs.Profile.{xn_type}
use Rattle.message_defs.specs.Fields.{from_number, from_ue, from_sn, from_peer, to_peer}
use Rattle.message_defs.specs.Places as places
use Rattle.message_defs.specs.Places.{written_message, written_elements}
use Rattle.message_defs.specs.FromValue.{Cause}
use Rattle.message_defs.specs.Xn.{written_xn, xn_at, xn_from_value}
use Rattle.proof_heard_messages.proofs.Fields.{sn_back, peer_back}
use Rattle.proof_heard_messages.proofs.HeardXn.{heard}
use Rattle.law_messages.specs.message_versions.Versions.{without_origin}
use Rattle.law_messages.proofs.message_versions.Octets.{octets_of_octets}
use Rattle.law_messages.proofs.message_versions.SameBits.{IsSame, same_after, whole_same, same_closed, same_count, same_open, same_sequence}

-- ---- octets of a complete encoding
module _ (i : Path) (fs : List Field) where
  abbrev bits_there : List Bool
  bits_there = put_all [] (closed i fs)

  abbrev its_count : ℕ
  its_count = octet_count (closed i fs)

  whole_bits : length bits_there ≡ 8 * its_count
  whole_bits = let mark : Field = asked i closing (empty_mark fs) in
      omega (arith, size_is (closed i fs), total-append 0 fs (mark ∷ []), closing_is fs 0 refl, octets_are i fs)

  raw_octets : List ℕ
  raw_octets = octets_of its_count bits_there

  raw_bits : octet_bits raw_octets ≡ bits_there
  unfolding raw_octets
  raw_bits = octets_of_bits its_count bits_there whole_bits

  raw_is : its_count ≤ 16383 → IsRaw (raw raw_octets)
  unfolding raw_octets
  raw_is h =
      let count : length (octets_of its_count bits_there) ≡ its_count = octets_of_count its_count bits_there in
      (omega (arith, count, octets_some i fs), omega (arith, count), octets_of_octets its_count bits_there whole_bits)

-- ---- a Handover Request
module _ (ue : UeId) (instance epoch bearers : ℕ) (sn : SnBits) (quota : ℕ) (peer : Peer) (du : ℕ) (origin : List ℕ) where
  its_fields : List places.Field
  its_fields = places.has ies.ue (from_ue ue) ∷ places.has ies.instance (from_number instance) ∷ places.has ies.epoch (from_number epoch)
      ∷ places.has ies.bearers (from_number bearers) ∷ places.has ies.sn (from_sn sn) ∷ places.has ies.quota (from_number quota)
      ∷ places.has ies.peer (from_peer peer) ∷ places.has ies.du (from_number du) ∷ []

  with_additions : Options → Value
  with_additions more = written_message (handover_request 2) its_fields more

  its_components : Options
  its_components = present (elements (written_elements (handover_request 2).elements its_fields)) no_options

  root : Parts
  root = parts (component (codes "protocolIEs") false (container (element_rows (handover_request 2).elements)) no_components)

  q : Path
  q = fields.outcome 0 ∷ []

  inside : Path
  inside = fields.component (codes "origin") ∷ q

  its_layout : List Field
  its_layout = layout inside (tree types.name) (text origin)

  os : List ℕ
  os = raw_octets inside its_layout

  older_body : IsSame (layout q (sequence true root no_parts) (components its_components (present (raw os) no_options)))
      (layout q (sequence true root (part (codes "origin") false (tree types.name) no_parts)) (components its_components
      (present (text origin) no_options)))
  unfolding inside its_layout os
  older_body = same_sequence q root its_components (codes "origin") (tree types.name) (text origin) os (raw_bits inside its_layout)

  older_layout : IsSame (layout [] (xn_type 1) (with_additions (present (raw os) no_options)))
      (layout [] (xn_type 2) (with_additions (present (text origin) no_options)))
  unfolding xn_type tree parts rows procedures outcome_tree with_additions its_components root q layout body_fields outcome_fields
  older_layout = same_after (message_head [] 0 1 0) _ _ (same_open [] [] q q _ _ older_body)

  older_has : Has [] (xn_type 2) (with_additions (present (text origin) no_options))
      → Has [] (xn_type 1) (with_additions (present (raw os) no_options))
  unfolding xn_type tree parts rows procedures outcome_tree with_additions its_components root q inside its_layout os Has HasAdditions HasBody HasOutcome
  older_has h = (
    h.0,
    h.1,
    ((h.2.0.0, h.2.0.1, (raw_is inside its_layout h.2.0.2.1, tt)), subst (λ n. n ≤ 16383) (sym (same_count q q _ _ older_body)) h.2.1),
  )

  older_spells : (octets : List ℕ) → Spells (xn_type 2) (with_additions (present (text origin) no_options)) octets
      → Spells (xn_type 1) (with_additions (present (raw os) no_options)) octets
  older_spells octets s = record {
    has = older_has s.has;
    bits = s.bits ∙ sym (whole_same _ _ (same_closed [] [] _ _ older_layout));
    short = s.short;
  }

  answer : SnBits → Peer → XnMessage
  answer s p = xns.HandoverRequest ue instance epoch bearers s quota p du None

  older_from_value : xn_from_value (with_additions (present (raw os) no_options)) ≡ Ok (xns.HandoverRequest ue instance epoch bearers sn quota peer du None)
  unfolding with_additions its_fields xn_from_value xn_at answer
  older_from_value = ap (λ (s : SnBits). let x : Result XnMessage Cause = Ok (answer s (to_peer (from_peer peer))) in x) (sn_back sn)
      ∙ ap (λ (p : Peer). let x : Result XnMessage Cause = Ok (answer sn p) in x) (peer_back peer)

  pub older_origin : (octets : List ℕ) → Spells (xn_type 2) (written_xn (xns.HandoverRequest ue instance epoch bearers sn quota peer du (Some origin))) octets
      → (v : Value) × Spells (xn_type 1) v octets × (xn_from_value v ≡ Ok (xns.HandoverRequest ue instance epoch bearers sn quota peer du None))
  unfolding written_xn with_additions its_fields
  older_origin octets s = (with_additions (present (raw os) no_options), older_spells octets s, older_from_value)

pub spelled_older : (msg : XnMessage) (octets : List ℕ) → Spells (xn_type 2) (written_xn msg) octets
    → (v : Value) × Spells (xn_type 1) v octets × (xn_from_value v ≡ Ok (without_origin msg))
unfolding xn_type tree parts rows procedures outcome_tree written_xn layout addition_fields body_fields outcome_fields Has HasAdditions HasBody HasOutcome
spelled_older (xns.HandoverRequest ue instance epoch bearers sn quota peer du None) octets s =
    (written_xn (xns.HandoverRequest ue instance epoch bearers sn quota peer du None), record { has = s.has; bits = s.bits; short = s.short }, heard (xns.HandoverRequest ue instance epoch bearers sn quota peer du None))
spelled_older (xns.HandoverRequest ue instance epoch bearers sn quota peer du (Some origin)) octets s =
    older_origin ue instance epoch bearers sn quota peer du origin octets s
spelled_older (xns.HandoverRequestAcknowledge ue instance peer forward_down forward_up) octets s =
    (written_xn (xns.HandoverRequestAcknowledge ue instance peer forward_down forward_up), record { has = s.has; bits = s.bits; short = s.short }, heard (xns.HandoverRequestAcknowledge ue instance peer forward_down forward_up))
spelled_older (xns.HandoverPreparationFailure ue instance cause) octets s =
    (written_xn (xns.HandoverPreparationFailure ue instance cause), record { has = s.has; bits = s.bits; short = s.short }, heard (xns.HandoverPreparationFailure ue instance cause))
spelled_older (xns.SnStatusTransfer ue instance statuses) octets s =
    (written_xn (xns.SnStatusTransfer ue instance statuses), record { has = s.has; bits = s.bits; short = s.short }, heard (xns.SnStatusTransfer ue instance statuses))
spelled_older (xns.HandoverCancel ue instance) octets s =
    (written_xn (xns.HandoverCancel ue instance), record { has = s.has; bits = s.bits; short = s.short }, heard (xns.HandoverCancel ue instance))
spelled_older (xns.UeContextRelease ue instance) octets s =
    (written_xn (xns.UeContextRelease ue instance), record { has = s.has; bits = s.bits; short = s.short }, heard (xns.UeContextRelease ue instance))
spelled_older (xns.TransportConfirm ue instance) octets s =
    (written_xn (xns.TransportConfirm ue instance), record { has = s.has; bits = s.bits; short = s.short }, heard (xns.TransportConfirm ue instance))
