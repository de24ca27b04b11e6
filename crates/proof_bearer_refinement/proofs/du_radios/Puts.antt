-- What a DU puts on a bearer's radio down, in words of its change.
use Rattle.std.proofs.Common.{◌≡◌, ℕ, Bool, true, false, ◌&&◌, List, [], ◌∷◌, ◌++◌, map, Option, Some, None, refl, sym, ap, subst, ◌∙◌}
use Rattle.std.specs.Prelude.{if◌then◌else◌}
use Rattle.std.proofs.lemmas.List.{append-nil}
use Rattle.std.specs.Ordering.{eq_by_cmp, nat_cmp, is_eq}
use Rattle.std.specs.Cmp.{Equal-is, tied_itself}
use Rattle.gnb_types.specs.declared.names.UeId.{UeId}
use Rattle.gnb_types.specs.declared.names.BearerId.{BearerId}
use Rattle.gnb_types.specs.declared.names.Dir.TheVariants.{Dl, Ul}
use Rattle.gnb_types.specs.declared.keys.EntityKey.{EntityKey}
use Rattle.gnb_types.specs.Orders.{ue_cmp, bearer_cmp, entity_cmp}
use Rattle.gnb_types.proofs.OrderLemmas.{ue_total, ue_exact, bearer_total, entity_exact}
use Rattle.tables.specs.Tables.{find}
use Rattle.message_types.specs.declared.rrc.Token.{Token}
use Rattle.unit_defs.specs.Ways.{Message, Pdu, packet_pdu, report_pdu, frame, Input, packet_input, Output, control, packet, radio, deliver, dropped, held, opened, closed, failed, no, Answer, gives}
use Rattle.unit_defs.specs.Du.{DuTunnel, du_acts}
use Rattle.transport_defs.specs.Links.{is_epoch}
use Rattle.run_defs.specs.Written.{written_put}
use Rattle.run_defs.specs.States.{Lengths, entity}
use Rattle.run_defs.specs.Runs.{plain_way, taken_of}
use Rattle.proof_bearer_refinement.specs.run_unit_inputs.Happenings.{DuRecord}
use Rattle.law_downlink_order.specs.path.Paths.{carried_by, gap_after}
use Rattle.proof_node_orders.specs.du_inputs.Changes.{Change, stays, takes, renews, sets_up, ends, DuModel, model_of, of_tunnel, change_by}
use Rattle.proof_node_orders.specs.du_inputs.Puts.{is_of, radio_put, of_model, carried_if, carried_of, Puts}
use Rattle.proof_node_orders.specs.du_puts.Inputs.{ups_by, IsInOrder}
use Rattle.proof_node_orders.proofs.du_puts.ControlMessages.{input_puts}
use Rattle.proof_node_orders.specs.terminal_inputs.Inputs.{packet_in}
use Rattle.proof_bearer_refinement.specs.downlink_radio.Down.{down_key, packets_down}
use Rattle.proof_bearer_refinement.proofs.downlink_radio.Waits.{down_refinement}
use Rattle.proof_bearer_refinement.specs.du_radios.Puts.{packets_by}

-- the packets of PDUs that are put in an epoch
abbrev packets_at : Option ℕ → List (ℕ × Pdu) → List (ℕ × List ℕ)
packets_at at [] = []
packets_at at ((epoch, pdu) ∷ more) = (if is_epoch at epoch then packet_in pdu else []) ++ packets_at at more

module _ (ue : UeId) (bearer : BearerId) (lengths : Lengths) (at : Option ℕ) where
  never_up : (who : UeId) (q : BearerId) → eq_by_cmp entity_cmp (down_key ue bearer) (entity who q Ul) ≡ false
  never_up who q = by (eq_by_cmp entity_cmp (down_key ue bearer) (entity who q Ul)) refl
    where
      by : (t : Bool) → eq_by_cmp entity_cmp (down_key ue bearer) (entity who q Ul) ≡ t → t ≡ false
      by false e = refl
      by true e =
          let same : down_key ue bearer ≡ entity who q Ul = entity_exact (down_key ue bearer) (entity who q Ul) ((Equal-is (entity_cmp (down_key ue bearer) (entity who q Ul))).0 e) in
          let never : Dl ≡ Ul = ap (λ (k : EntityKey). k.dir) same in absurd cc

  key_is : (who : UeId) (q : BearerId) → eq_by_cmp entity_cmp (down_key ue bearer) (entity who q Dl) ≡ is_of ue bearer who q
  key_is who q = by (eq_by_cmp ue_cmp ue who) refl
    where
      apart : (t : Bool) → eq_by_cmp entity_cmp (down_key ue bearer) (entity who q Dl) ≡ t → eq_by_cmp ue_cmp ue who ≡ false → t ≡ false
      apart false refinement other = refl
      apart true refinement other =
          let same : ue ≡ who =
          ap (λ (k : EntityKey). k.ue) (entity_exact (down_key ue bearer) (entity who q Dl) ((Equal-is (entity_cmp (down_key ue bearer) (entity who q Dl))).0 refinement)) in
          let never : true ≡ false = sym (ap is_eq (tied_itself ue_total ue)) ∙ ap (λ (w : UeId). eq_by_cmp ue_cmp ue w) same ∙ other in absurd cc

      by : (t : Bool) → eq_by_cmp ue_cmp ue who ≡ t → eq_by_cmp entity_cmp (down_key ue bearer) (entity who q Dl) ≡ (t && eq_by_cmp bearer_cmp bearer q)
      by true refinement =
          ap (λ (w : UeId). eq_by_cmp entity_cmp (down_key ue bearer) (entity w q Dl)) (sym (ue_exact ue who ((Equal-is (ue_cmp ue who)).0 refinement)))
          ∙ down_refinement ue bearer q
      by false other = apart (eq_by_cmp entity_cmp (down_key ue bearer) (entity who q Dl)) refl other

  one_if : (t x : Bool) (epoch : ℕ) (pdu : Pdu) (more : List (ℕ × Pdu)) → is_epoch at epoch ≡ x
      → (if t && x then packet_in pdu else []) ++ packets_at at more ≡ packets_at at ((if t then (epoch, pdu) ∷ [] else []) ++ more)
  one_if true x epoch pdu more is = ap (λ (z : Bool). (if z then packet_in pdu else []) ++ packets_at at more) (sym is)
  one_if false x epoch pdu more is = refl

  none_if : (t x : Bool) (xs more : List (ℕ × List ℕ)) → t ≡ false → (if t && x then xs else []) ++ more ≡ more
  none_if true x xs more never = absurd cc
  none_if false x xs more never = refl

  pub all_say : (outputs : List (Output (Message Token) Pdu))
      → packets_down (down_key ue bearer) at (map (written_put lengths) outputs) ≡ packets_at at (radio_put ue bearer outputs)
  unfolding packets_down radio_put
  all_say [] = refl
  all_say (radio who q Dl e tag pdu ∷ outputs) =
      (λ i. (if key_is who q i && is_epoch at e then packet_in pdu else []) ++ all_say outputs i)
      ∙ one_if (is_of ue bearer who q) (is_epoch at e) e pdu (radio_put ue bearer outputs) refl
  all_say (radio who q Ul e tag pdu ∷ outputs) =
      none_if (eq_by_cmp entity_cmp (down_key ue bearer) (entity who q Ul)) (is_epoch at e) (packet_in pdu) _ (never_up who q) ∙ all_say outputs
  all_say (control to u m ∷ outputs) = all_say outputs
  all_say (packet to teid u b dir tag load ∷ outputs) = all_say outputs
  all_say (deliver u b dir count p ∷ outputs) = all_say outputs
  all_say (dropped reason ∷ outputs) = all_say outputs
  all_say (held reason ∷ outputs) = all_say outputs
  all_say (opened teid ∷ outputs) = all_say outputs
  all_say (closed teid ∷ outputs) = all_say outputs
  all_say (failed u cause ∷ outputs) = all_say outputs
  all_say (no reason ∷ outputs) = all_say outputs

-- ---- in words of the change

frame_says : (at : Option ℕ) (gap : Bool) (epoch : ℕ) (pdu : Option Pdu)
    → packets_at at (carried_if gap epoch pdu) ≡ (if is_epoch at epoch then carried_by gap pdu else [])
frame_says at gap epoch pdu = by gap pdu (is_epoch at epoch) refl
  where
    by : (g : Bool) (p : Option Pdu) (x : Bool) → is_epoch at epoch ≡ x
        → packets_at at (carried_if g epoch p) ≡ (if is_epoch at epoch then carried_by g p else [])
    by true None true is = ap (λ (z : Bool). if z then carried_by true None else []) (sym is)
    by true None false is = ap (λ (z : Bool). if z then carried_by true None else []) (sym is)
    by false None true is = ap (λ (z : Bool). if z then carried_by false None else []) (sym is)
    by false None false is = ap (λ (z : Bool). if z then carried_by false None else []) (sym is)
    by true (Some p) true is = ap (λ (z : Bool). if z then carried_by true (Some p) else []) (sym is)
    by true (Some p) false is = ap (λ (z : Bool). if z then carried_by true (Some p) else []) (sym is)
    by false (Some (packet_pdu count sdu)) x is = append-nil (if is_epoch at epoch then (count, sdu) ∷ [] else [])
    by false (Some (report_pdu fmc bits)) x is = append-nil (if is_epoch at epoch then [] else [])

change_says : (at : Option ℕ) (change : Change) (part : Option DuModel)
    → packets_at at (of_model (carried_of change) part) ≡ packets_by at change part
change_says at stays None = refl
change_says at (takes f) None = refl
change_says at (renews epoch teid) None = refl
change_says at (sets_up p) None = refl
change_says at ends None = refl
change_says at (takes f) (Some part) = frame_says at (gap_after part.bearer f f.pdu) part.epoch f.pdu
change_says at stays (Some part) = refl
change_says at (renews epoch teid) (Some part) = refl
change_says at (sets_up p) (Some part) = refl
change_says at ends (Some part) = refl

pub puts_frames : (ue : UeId) (bearer : BearerId) (r left : DuRecord) (input : Input Token Pdu) (outputs : List (Output (Message Token) Pdu))
    (lengths : Lengths) (at : Option ℕ) → IsInOrder r ue → du_acts plain_way r input ≡ gives outputs left
    → packets_down (down_key ue bearer) at (map (written_put lengths) outputs)
    ≡ packets_by at (change_by plain_way ue bearer r input) (model_of r ue bearer)
unfolding Puts
puts_frames ue bearer r left input outputs lengths at in_order answers =
    let put = subst (λ (a : Answer (Message Token) Pdu DuRecord). Puts ue bearer (ups_by plain_way ue bearer r input)
    (of_model (carried_of (change_by plain_way ue bearer r input)) (model_of r ue bearer)) a) answers (input_puts plain_way ue bearer r input in_order) in
    all_say ue bearer lengths at outputs ∙ ap (packets_at at) put.1 ∙ change_says at (change_by plain_way ue bearer r input) (model_of r ue bearer)

pub frame_changes : (ue : UeId) (bearer : BearerId) (r : DuRecord) (teid : ℕ) (poll restart : Bool) (number : ℕ) (pdu : Option Pdu)
    → find nat_cmp r.tunnels teid ≡ Some (record { ue = ue; bearer = bearer })
    → change_by plain_way ue bearer r (packet_input teid (taken_of (frame poll restart number pdu)))
    ≡ takes (record { poll = poll; restart = restart; number = number; pdu = pdu })
unfolding change_by
frame_changes ue bearer r teid poll restart number pdu found =
    ap (λ (o : Option DuTunnel). of_tunnel ue bearer (taken_of (frame poll restart number pdu)) o) found
    ∙ (λ i. if ap is_eq (tied_itself ue_total ue) i
    then (if ap is_eq (tied_itself bearer_total bearer) i then takes (record { poll = poll; restart = restart; number = number; pdu = pdu }) else stays) else stays)
