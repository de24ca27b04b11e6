-- What a DU makes of a frame that it awaits, and of a PDU that was confirmed.
use Rattle.std.proofs.Common.{◌≡◌, ℕ, ◌+◌, ◌-◌, Bool, true, false, not, ◌||◌, ◌&&◌, [], ◌∷◌, Some, None, refl, sym, ap, ◌∙◌, arith}
use Rattle.std.specs.Prelude.{if◌then◌else◌, nat_lt}
use Rattle.std.specs.Ordering.{nat_cmp}
use Rattle.gnb_types.specs.declared.names.UeId.{UeId}
use Rattle.gnb_types.specs.declared.names.BearerId.{BearerId}
use Rattle.gnb_types.specs.declared.names.Dir.TheVariants.{Dl}
use Rattle.gnb_types.specs.declared.outputs.Tag.TheVariants.{Absent, Same}
use Rattle.gnb_types.specs.Orders.{bearer_cmp}
use Rattle.tables.specs.Tables.{find}
use Rattle.unit_defs.specs.Ways.{status, frame_item, packet_input, confirm_input, Content, Way, packet, radio, Answer, gives, ◌then◌}
use Rattle.unit_defs.specs.Du.{Du, DuBearer, DuContext, DuTunnel, context_of, with_bearer, carried, taken_in, taken_of, taken_on, take, of_bearer, of_context, confirmed, confirm, du_acts}
use Rattle.law_downlink_scripts.specs.downlink_only_rows.DownlinkOnly.{frame_passed}

not_before_itself : (a b : ℕ) → a ≡ b → nat_lt a b ≡ false
not_before_itself a b e = grind arith

module _ {M C P : Type 0} (way : Way M C P) (r : Du M C) where
  pub passes : (teid : ℕ) (t : DuTunnel) (c : DuContext) (b : DuBearer) (number : ℕ) (pdu : P) → find nat_cmp r.tunnels teid ≡ Some t
      → context_of r t.ue ≡ Some c → find bearer_cmp c.bearers t.bearer ≡ Some b → b.awaited ≡ number → b.gap ≡ false
      → du_acts way r (packet_input teid (frame_item false false number (Some pdu))) ≡ frame_passed way t.ue t.bearer c b pdu r
  unfolding du_acts take
  passes teid t c b number pdu is_open there has awaited calm =
      ap (taken_on way (frame_item false false number (Some pdu)) r) is_open
      ∙ ap (taken_of way t.ue t.bearer (frame_item false false number (Some pdu)) r) there
      ∙ ap (taken_in way t.ue t.bearer c (frame_item false false number (Some pdu)) r) has
      ∙ by (nat_lt b.awaited number) b.gap (not_before_itself b.awaited number awaited) calm ∙ ap at_next (sym awaited)
    where
      after : ℕ → Bool → Du M C
      after n gap = with_bearer way t.ue t.bearer c (record b { awaited = n + 1; gap = gap }) r

      at_next : ℕ → Answer M P (Du M C)
      at_next n = gives (radio t.ue t.bearer Dl c.epoch Same pdu ∷ []) (after n false)

      by : (m g : Bool) → m ≡ false → g ≡ false
          → (gives (if m || false then packet b.up b.uplink t.ue t.bearer Dl Absent (status (if m then (b.awaited, number - 1) ∷ [] else []) None) ∷ [] else [])
          (after number ((g || m) && not false))
          then carried way t.ue t.bearer c ((g || m) && not false) (Some pdu)) ≡ at_next number
      by true g e f = absurd cc
      by false true e f = absurd cc
      by false false e f = refl

  -- what was confirmed is told by its number, if it has one
  pub confirms : (ue : UeId) (bearer : BearerId) (c : DuContext) (b : DuBearer) (pdu : P) (content : Content) → context_of r ue ≡ Some c
      → find bearer_cmp c.bearers bearer ≡ Some b
      → du_acts way r (confirm_input ue bearer Dl pdu content) ≡ confirmed way ue bearer r b (way.number c.sn pdu)
  unfolding du_acts confirm
  confirms ue bearer c b pdu content there has =
      ap (of_context way r row bearer) there ∙ ap (of_bearer way r row c) has
    where
      row : DuContext → DuBearer → Answer M P (Du M C)
      row c b = confirmed way ue bearer r b (way.number c.sn pdu)
