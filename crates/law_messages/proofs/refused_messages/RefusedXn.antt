-- XnMessage: why nothing is heard in a value of the PDU.
use Rattle.std.proofs.Common.{◌≡◌, ℕ, Bool, true, false, cond, Option, Some, None, Result, Err, refl, ap}
use Rattle.message_types.specs.declared.xn.XnMessage.TheVariants as xns
use Rattle.message_types.specs.declared.xn.XnMessage.{XnMessage}
use Rattle.aper_defs.specs.Values.{Value, message}
use Rattle.message_defs.specs.profile_defs.Forms.{Form, OutcomeForm, no_form, some_form}
use Rattle.message_defs.specs.profile_defs.Elements as ies
use Rattle.message_defs.specs.profile_defs.Tables.{is_at, outcome_at, message_form}
use Rattle.message_defs.specs.profile_defs.Messages.{xn_messages, handover_request, handover_request_acknowledge, handover_preparation_failure, sn_status_transfer, handover_cancel, ue_context_release, transport_confirm}
use Rattle.message_defs.specs.Fields.{to_index, to_number, to_peer, to_sn, to_statuses, to_tunnels, to_ue}
use Rattle.message_defs.specs.Places.{the, elements_in, additions_in}
use Rattle.message_defs.specs.FromValue.{Cause, unknown_procedure, unknown_element, first_rejected, unless_rejected, rejected_in}
use Rattle.message_defs.specs.Xn.{to_origin, xn_at, xn_from_value}

handover_request_in : Value → XnMessage
handover_request_in body = xns.HandoverRequest (the ies.ue to_ue (elements_in body)) (the ies.instance to_number (elements_in body)) (the ies.epoch to_number (elements_in body)) (the ies.bearers to_number (elements_in body)) (the ies.sn to_sn (elements_in body)) (the ies.quota to_number (elements_in body)) (the ies.peer to_peer (elements_in body)) (the ies.du to_number (elements_in body)) (to_origin (additions_in body))

handover_request_acknowledge_in : Value → XnMessage
handover_request_acknowledge_in body = xns.HandoverRequestAcknowledge (the ies.ue to_ue (elements_in body)) (the ies.instance to_number (elements_in body)) (the ies.peer to_peer (elements_in body)) (the ies.forward_down to_tunnels (elements_in body)) (the ies.forward_up to_tunnels (elements_in body))

handover_preparation_failure_in : Value → XnMessage
handover_preparation_failure_in body = xns.HandoverPreparationFailure (the ies.ue to_ue (elements_in body)) (the ies.instance to_number (elements_in body)) (the ies.cause to_index (elements_in body))

sn_status_transfer_in : Value → XnMessage
sn_status_transfer_in body = xns.SnStatusTransfer (the ies.ue to_ue (elements_in body)) (the ies.instance to_number (elements_in body)) (the ies.statuses to_statuses (elements_in body))

handover_cancel_in : Value → XnMessage
handover_cancel_in body = xns.HandoverCancel (the ies.ue to_ue (elements_in body)) (the ies.instance to_number (elements_in body))

ue_context_release_in : Value → XnMessage
ue_context_release_in body = xns.UeContextRelease (the ies.ue to_ue (elements_in body)) (the ies.instance to_number (elements_in body))

transport_confirm_in : Value → XnMessage
transport_confirm_in body = xns.TransportConfirm (the ies.ue to_ue (elements_in body)) (the ies.instance to_number (elements_in body))

module _ (index code criticality : ℕ) (body : Value) where
  unknown_by : (b0 b1 b2 b3 b4 b5 b6 : Bool) (f0 f1 f2 f3 f4 f5 f6 : Form) → (let x : OutcomeForm = cond b0 (some_form f0) (cond b1 (some_form f1) (cond b2 (some_form f2) (cond b3 (some_form f3) (cond b4 (some_form f4) (cond b5 (some_form f5) (cond b6 (some_form f6) (no_form))))))) in x) ≡ no_form
      → (let x : Result XnMessage Cause = cond b0 (unless_rejected (first_rejected (handover_request 2).elements (elements_in body)) (handover_request_in body)) (cond b1 (unless_rejected (first_rejected handover_request_acknowledge.elements (elements_in body)) (handover_request_acknowledge_in body)) (cond b2 (unless_rejected (first_rejected handover_preparation_failure.elements (elements_in body)) (handover_preparation_failure_in body)) (cond b3 (unless_rejected (first_rejected sn_status_transfer.elements (elements_in body)) (sn_status_transfer_in body)) (cond b4 (unless_rejected (first_rejected handover_cancel.elements (elements_in body)) (handover_cancel_in body)) (cond b5 (unless_rejected (first_rejected ue_context_release.elements (elements_in body)) (ue_context_release_in body)) (cond b6 (unless_rejected (first_rejected transport_confirm.elements (elements_in body)) (transport_confirm_in body)) (Err (unknown_procedure code criticality)))))))) in x) ≡ Err (unknown_procedure code criticality)
  unknown_by true b1 b2 b3 b4 b5 b6 f0 f1 f2 f3 f4 f5 f6 e = cc
  unknown_by false true b2 b3 b4 b5 b6 f0 f1 f2 f3 f4 f5 f6 e = cc
  unknown_by false false true b3 b4 b5 b6 f0 f1 f2 f3 f4 f5 f6 e = cc
  unknown_by false false false true b4 b5 b6 f0 f1 f2 f3 f4 f5 f6 e = cc
  unknown_by false false false false true b5 b6 f0 f1 f2 f3 f4 f5 f6 e = cc
  unknown_by false false false false false true b6 f0 f1 f2 f3 f4 f5 f6 e = cc
  unknown_by false false false false false false true f0 f1 f2 f3 f4 f5 f6 e = cc
  unknown_by false false false false false false false f0 f1 f2 f3 f4 f5 f6 e = refl

  rejected_by : (id : ℕ) (b0 b1 b2 b3 b4 b5 b6 : Bool) → cond b0 (first_rejected (handover_request 2).elements (elements_in body)) (cond b1 (first_rejected handover_request_acknowledge.elements (elements_in body)) (cond b2 (first_rejected handover_preparation_failure.elements (elements_in body)) (cond b3 (first_rejected sn_status_transfer.elements (elements_in body)) (cond b4 (first_rejected handover_cancel.elements (elements_in body)) (cond b5 (first_rejected ue_context_release.elements (elements_in body)) (cond b6 (first_rejected transport_confirm.elements (elements_in body)) (None))))))) ≡ Some id
      → (let x : Result XnMessage Cause = cond b0 (unless_rejected (first_rejected (handover_request 2).elements (elements_in body)) (handover_request_in body)) (cond b1 (unless_rejected (first_rejected handover_request_acknowledge.elements (elements_in body)) (handover_request_acknowledge_in body)) (cond b2 (unless_rejected (first_rejected handover_preparation_failure.elements (elements_in body)) (handover_preparation_failure_in body)) (cond b3 (unless_rejected (first_rejected sn_status_transfer.elements (elements_in body)) (sn_status_transfer_in body)) (cond b4 (unless_rejected (first_rejected handover_cancel.elements (elements_in body)) (handover_cancel_in body)) (cond b5 (unless_rejected (first_rejected ue_context_release.elements (elements_in body)) (ue_context_release_in body)) (cond b6 (unless_rejected (first_rejected transport_confirm.elements (elements_in body)) (transport_confirm_in body)) (Err (unknown_procedure code criticality)))))))) in x) ≡ Err (unknown_element id)
  rejected_by id true b1 b2 b3 b4 b5 b6 e = ap (λ (r : Option ℕ). unless_rejected r (handover_request_in body)) e
  rejected_by id false true b2 b3 b4 b5 b6 e = ap (λ (r : Option ℕ). unless_rejected r (handover_request_acknowledge_in body)) e
  rejected_by id false false true b3 b4 b5 b6 e = ap (λ (r : Option ℕ). unless_rejected r (handover_preparation_failure_in body)) e
  rejected_by id false false false true b4 b5 b6 e = ap (λ (r : Option ℕ). unless_rejected r (sn_status_transfer_in body)) e
  rejected_by id false false false false true b5 b6 e = ap (λ (r : Option ℕ). unless_rejected r (handover_cancel_in body)) e
  rejected_by id false false false false false true b6 e = ap (λ (r : Option ℕ). unless_rejected r (ue_context_release_in body)) e
  rejected_by id false false false false false false true e = ap (λ (r : Option ℕ). unless_rejected r (transport_confirm_in body)) e
  rejected_by id false false false false false false false e = cc

pub unknown : (version : ℕ) (index code criticality : ℕ) (body : Value) → outcome_at code index (xn_messages version) ≡ no_form
    → xn_from_value (message index code criticality body) ≡ Err (unknown_procedure code criticality)
unfolding xn_from_value xn_at handover_request_in handover_request_acknowledge_in handover_preparation_failure_in sn_status_transfer_in handover_cancel_in ue_context_release_in transport_confirm_in
unknown version index code criticality body e = unknown_by index code criticality body (is_at code index (handover_request 2)) (is_at code index handover_request_acknowledge) (is_at code index handover_preparation_failure) (is_at code index sn_status_transfer) (is_at code index handover_cancel) (is_at code index ue_context_release) (is_at code index transport_confirm) (message_form (handover_request version)) (message_form handover_request_acknowledge) (message_form handover_preparation_failure) (message_form sn_status_transfer) (message_form handover_cancel) (message_form ue_context_release) (message_form transport_confirm) e

pub rejected : (version : ℕ) (id : ℕ) (v : Value) → rejected_in (xn_messages version) v ≡ Some id → xn_from_value v ≡ Err (unknown_element id)
unfolding xn_from_value xn_at handover_request_in handover_request_acknowledge_in handover_preparation_failure_in sn_status_transfer_in handover_cancel_in ue_context_release_in transport_confirm_in
rejected version id (message index code criticality body) e = rejected_by index code criticality body id (is_at code index (handover_request 2)) (is_at code index handover_request_acknowledge) (is_at code index handover_preparation_failure) (is_at code index sn_status_transfer) (is_at code index handover_cancel) (is_at code index ue_context_release) (is_at code index transport_confirm) e
rejected version id v e = cc
