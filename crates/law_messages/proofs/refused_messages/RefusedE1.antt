-- E1Message: why nothing is heard in a value of the PDU.
use Rattle.std.proofs.Common.{◌≡◌, ℕ, Bool, true, false, cond, Option, Some, None, Result, Err, refl, ap}
use Rattle.message_types.specs.declared.e1.E1Message.TheVariants as e1s
use Rattle.message_types.specs.declared.e1.E1Message.{E1Message}
use Rattle.aper_defs.specs.Values.{Value, message}
use Rattle.message_defs.specs.profile_defs.Forms.{Form, OutcomeForm, no_form, some_form}
use Rattle.message_defs.specs.profile_defs.Elements as ies
use Rattle.message_defs.specs.profile_defs.Tables.{is_at, outcome_at, message_form}
use Rattle.message_defs.specs.profile_defs.Messages.{e1_messages, e1_setup_request, e1_setup_response, bearer_context_setup_request, bearer_context_setup_response, bearer_context_setup_failure, bearer_context_modification_request, bearer_context_modification_response, bearer_context_modification_failure, bearer_context_release_command, bearer_context_release_complete}
use Rattle.message_defs.specs.Fields.{to_flag, to_index, to_number, to_peer, to_sn, to_statuses, to_text, to_tunnels, to_ue}
use Rattle.message_defs.specs.Places.{the, any, elements_in}
use Rattle.message_defs.specs.FromValue.{Cause, unknown_procedure, unknown_element, first_rejected, unless_rejected, rejected_in}
use Rattle.message_defs.specs.E1.{e1_at, e1_from_value}

e1_setup_request_in : Value → E1Message
e1_setup_request_in body = e1s.E1SetupRequest (the ies.instance to_number (elements_in body)) (the ies.name to_text (elements_in body))

e1_setup_response_in : Value → E1Message
e1_setup_response_in body = e1s.E1SetupResponse (the ies.instance to_number (elements_in body))

bearer_context_setup_request_in : Value → E1Message
bearer_context_setup_request_in body = e1s.BearerContextSetupRequest (the ies.ue to_ue (elements_in body)) (the ies.instance to_number (elements_in body)) (the ies.bearers to_number (elements_in body)) (the ies.sn to_sn (elements_in body)) (the ies.quota to_number (elements_in body)) (the ies.forward to_flag (elements_in body))

bearer_context_setup_response_in : Value → E1Message
bearer_context_setup_response_in body = e1s.BearerContextSetupResponse (the ies.ue to_ue (elements_in body)) (the ies.instance to_number (elements_in body)) (the ies.uplinks to_tunnels (elements_in body)) (the ies.n3 to_tunnels (elements_in body)) (any ies.forward_down to_tunnels (elements_in body)) (any ies.forward_up to_tunnels (elements_in body))

bearer_context_setup_failure_in : Value → E1Message
bearer_context_setup_failure_in body = e1s.BearerContextSetupFailure (the ies.ue to_ue (elements_in body)) (the ies.instance to_number (elements_in body)) (the ies.cause to_index (elements_in body))

bearer_context_modification_request_in : Value → E1Message
bearer_context_modification_request_in body = e1s.BearerContextModificationRequest (the ies.ue to_ue (elements_in body)) (the ies.instance to_number (elements_in body)) (any ies.downlinks to_tunnels (elements_in body)) (the ies.mode to_index (elements_in body)) (any ies.peer to_peer (elements_in body)) (any ies.forward_down to_tunnels (elements_in body)) (any ies.forward_up to_tunnels (elements_in body)) (any ies.statuses to_statuses (elements_in body)) (any ies.du to_number (elements_in body))

bearer_context_modification_response_in : Value → E1Message
bearer_context_modification_response_in body = e1s.BearerContextModificationResponse (the ies.ue to_ue (elements_in body)) (the ies.instance to_number (elements_in body)) (any ies.uplinks to_tunnels (elements_in body)) (any ies.statuses to_statuses (elements_in body))

bearer_context_modification_failure_in : Value → E1Message
bearer_context_modification_failure_in body = e1s.BearerContextModificationFailure (the ies.ue to_ue (elements_in body)) (the ies.instance to_number (elements_in body)) (the ies.cause to_index (elements_in body))

bearer_context_release_command_in : Value → E1Message
bearer_context_release_command_in body = e1s.BearerContextReleaseCommand (the ies.ue to_ue (elements_in body)) (the ies.instance to_number (elements_in body)) (the ies.is_final to_flag (elements_in body))

bearer_context_release_complete_in : Value → E1Message
bearer_context_release_complete_in body = e1s.BearerContextReleaseComplete (the ies.ue to_ue (elements_in body)) (the ies.instance to_number (elements_in body))

module _ (index code criticality : ℕ) (body : Value) where
  unknown_by : (b0 b1 b2 b3 b4 b5 b6 b7 b8 b9 : Bool) (f0 f1 f2 f3 f4 f5 f6 f7 f8 f9 : Form) → (let x : OutcomeForm = cond b0 (some_form f0) (cond b1 (some_form f1) (cond b2 (some_form f2) (cond b3 (some_form f3) (cond b4 (some_form f4) (cond b5 (some_form f5) (cond b6 (some_form f6) (cond b7 (some_form f7) (cond b8 (some_form f8) (cond b9 (some_form f9) (no_form)))))))))) in x) ≡ no_form
      → (let x : Result E1Message Cause = cond b0 (unless_rejected (first_rejected e1_setup_request.elements (elements_in body)) (e1_setup_request_in body)) (cond b1 (unless_rejected (first_rejected e1_setup_response.elements (elements_in body)) (e1_setup_response_in body)) (cond b2 (unless_rejected (first_rejected bearer_context_setup_request.elements (elements_in body)) (bearer_context_setup_request_in body)) (cond b3 (unless_rejected (first_rejected bearer_context_setup_response.elements (elements_in body)) (bearer_context_setup_response_in body)) (cond b4 (unless_rejected (first_rejected bearer_context_setup_failure.elements (elements_in body)) (bearer_context_setup_failure_in body)) (cond b5 (unless_rejected (first_rejected bearer_context_modification_request.elements (elements_in body)) (bearer_context_modification_request_in body)) (cond b6 (unless_rejected (first_rejected bearer_context_modification_response.elements (elements_in body)) (bearer_context_modification_response_in body)) (cond b7 (unless_rejected (first_rejected bearer_context_modification_failure.elements (elements_in body)) (bearer_context_modification_failure_in body)) (cond b8 (unless_rejected (first_rejected bearer_context_release_command.elements (elements_in body)) (bearer_context_release_command_in body)) (cond b9 (unless_rejected (first_rejected bearer_context_release_complete.elements (elements_in body)) (bearer_context_release_complete_in body)) (Err (unknown_procedure code criticality))))))))))) in x) ≡ Err (unknown_procedure code criticality)
  unknown_by true b1 b2 b3 b4 b5 b6 b7 b8 b9 f0 f1 f2 f3 f4 f5 f6 f7 f8 f9 e = cc
  unknown_by false true b2 b3 b4 b5 b6 b7 b8 b9 f0 f1 f2 f3 f4 f5 f6 f7 f8 f9 e = cc
  unknown_by false false true b3 b4 b5 b6 b7 b8 b9 f0 f1 f2 f3 f4 f5 f6 f7 f8 f9 e = cc
  unknown_by false false false true b4 b5 b6 b7 b8 b9 f0 f1 f2 f3 f4 f5 f6 f7 f8 f9 e = cc
  unknown_by false false false false true b5 b6 b7 b8 b9 f0 f1 f2 f3 f4 f5 f6 f7 f8 f9 e = cc
  unknown_by false false false false false true b6 b7 b8 b9 f0 f1 f2 f3 f4 f5 f6 f7 f8 f9 e = cc
  unknown_by false false false false false false true b7 b8 b9 f0 f1 f2 f3 f4 f5 f6 f7 f8 f9 e = cc
  unknown_by false false false false false false false true b8 b9 f0 f1 f2 f3 f4 f5 f6 f7 f8 f9 e = cc
  unknown_by false false false false false false false false true b9 f0 f1 f2 f3 f4 f5 f6 f7 f8 f9 e = cc
  unknown_by false false false false false false false false false true f0 f1 f2 f3 f4 f5 f6 f7 f8 f9 e = cc
  unknown_by false false false false false false false false false false f0 f1 f2 f3 f4 f5 f6 f7 f8 f9 e = refl

  rejected_by : (id : ℕ) (b0 b1 b2 b3 b4 b5 b6 b7 b8 b9 : Bool) → cond b0 (first_rejected e1_setup_request.elements (elements_in body)) (cond b1 (first_rejected e1_setup_response.elements (elements_in body)) (cond b2 (first_rejected bearer_context_setup_request.elements (elements_in body)) (cond b3 (first_rejected bearer_context_setup_response.elements (elements_in body)) (cond b4 (first_rejected bearer_context_setup_failure.elements (elements_in body)) (cond b5 (first_rejected bearer_context_modification_request.elements (elements_in body)) (cond b6 (first_rejected bearer_context_modification_response.elements (elements_in body)) (cond b7 (first_rejected bearer_context_modification_failure.elements (elements_in body)) (cond b8 (first_rejected bearer_context_release_command.elements (elements_in body)) (cond b9 (first_rejected bearer_context_release_complete.elements (elements_in body)) (None)))))))))) ≡ Some id
      → (let x : Result E1Message Cause = cond b0 (unless_rejected (first_rejected e1_setup_request.elements (elements_in body)) (e1_setup_request_in body)) (cond b1 (unless_rejected (first_rejected e1_setup_response.elements (elements_in body)) (e1_setup_response_in body)) (cond b2 (unless_rejected (first_rejected bearer_context_setup_request.elements (elements_in body)) (bearer_context_setup_request_in body)) (cond b3 (unless_rejected (first_rejected bearer_context_setup_response.elements (elements_in body)) (bearer_context_setup_response_in body)) (cond b4 (unless_rejected (first_rejected bearer_context_setup_failure.elements (elements_in body)) (bearer_context_setup_failure_in body)) (cond b5 (unless_rejected (first_rejected bearer_context_modification_request.elements (elements_in body)) (bearer_context_modification_request_in body)) (cond b6 (unless_rejected (first_rejected bearer_context_modification_response.elements (elements_in body)) (bearer_context_modification_response_in body)) (cond b7 (unless_rejected (first_rejected bearer_context_modification_failure.elements (elements_in body)) (bearer_context_modification_failure_in body)) (cond b8 (unless_rejected (first_rejected bearer_context_release_command.elements (elements_in body)) (bearer_context_release_command_in body)) (cond b9 (unless_rejected (first_rejected bearer_context_release_complete.elements (elements_in body)) (bearer_context_release_complete_in body)) (Err (unknown_procedure code criticality))))))))))) in x) ≡ Err (unknown_element id)
  rejected_by id true b1 b2 b3 b4 b5 b6 b7 b8 b9 e = ap (λ (r : Option ℕ). unless_rejected r (e1_setup_request_in body)) e
  rejected_by id false true b2 b3 b4 b5 b6 b7 b8 b9 e = ap (λ (r : Option ℕ). unless_rejected r (e1_setup_response_in body)) e
  rejected_by id false false true b3 b4 b5 b6 b7 b8 b9 e = ap (λ (r : Option ℕ). unless_rejected r (bearer_context_setup_request_in body)) e
  rejected_by id false false false true b4 b5 b6 b7 b8 b9 e = ap (λ (r : Option ℕ). unless_rejected r (bearer_context_setup_response_in body)) e
  rejected_by id false false false false true b5 b6 b7 b8 b9 e = ap (λ (r : Option ℕ). unless_rejected r (bearer_context_setup_failure_in body)) e
  rejected_by id false false false false false true b6 b7 b8 b9 e = ap (λ (r : Option ℕ). unless_rejected r (bearer_context_modification_request_in body)) e
  rejected_by id false false false false false false true b7 b8 b9 e = ap (λ (r : Option ℕ). unless_rejected r (bearer_context_modification_response_in body)) e
  rejected_by id false false false false false false false true b8 b9 e = ap (λ (r : Option ℕ). unless_rejected r (bearer_context_modification_failure_in body)) e
  rejected_by id false false false false false false false false true b9 e = ap (λ (r : Option ℕ). unless_rejected r (bearer_context_release_command_in body)) e
  rejected_by id false false false false false false false false false true e = ap (λ (r : Option ℕ). unless_rejected r (bearer_context_release_complete_in body)) e
  rejected_by id false false false false false false false false false false e = cc

pub unknown : (index code criticality : ℕ) (body : Value) → outcome_at code index e1_messages ≡ no_form
    → e1_from_value (message index code criticality body) ≡ Err (unknown_procedure code criticality)
unfolding e1_from_value e1_at e1_setup_request_in e1_setup_response_in bearer_context_setup_request_in bearer_context_setup_response_in bearer_context_setup_failure_in bearer_context_modification_request_in bearer_context_modification_response_in bearer_context_modification_failure_in bearer_context_release_command_in bearer_context_release_complete_in
unknown index code criticality body e = unknown_by index code criticality body (is_at code index e1_setup_request) (is_at code index e1_setup_response) (is_at code index bearer_context_setup_request) (is_at code index bearer_context_setup_response) (is_at code index bearer_context_setup_failure) (is_at code index bearer_context_modification_request) (is_at code index bearer_context_modification_response) (is_at code index bearer_context_modification_failure) (is_at code index bearer_context_release_command) (is_at code index bearer_context_release_complete) (message_form e1_setup_request) (message_form e1_setup_response) (message_form bearer_context_setup_request) (message_form bearer_context_setup_response) (message_form bearer_context_setup_failure) (message_form bearer_context_modification_request) (message_form bearer_context_modification_response) (message_form bearer_context_modification_failure) (message_form bearer_context_release_command) (message_form bearer_context_release_complete) e

pub rejected : (id : ℕ) (v : Value) → rejected_in e1_messages v ≡ Some id → e1_from_value v ≡ Err (unknown_element id)
unfolding e1_from_value e1_at e1_setup_request_in e1_setup_response_in bearer_context_setup_request_in bearer_context_setup_response_in bearer_context_setup_failure_in bearer_context_modification_request_in bearer_context_modification_response_in bearer_context_modification_failure_in bearer_context_release_command_in bearer_context_release_complete_in
rejected id (message index code criticality body) e = rejected_by index code criticality body id (is_at code index e1_setup_request) (is_at code index e1_setup_response) (is_at code index bearer_context_setup_request) (is_at code index bearer_context_setup_response) (is_at code index bearer_context_setup_failure) (is_at code index bearer_context_modification_request) (is_at code index bearer_context_modification_response) (is_at code index bearer_context_modification_failure) (is_at code index bearer_context_release_command) (is_at code index bearer_context_release_complete) e
rejected id v e = cc
