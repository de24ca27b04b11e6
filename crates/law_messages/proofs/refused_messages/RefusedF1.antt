-- F1: why nothing is heard in a value of the PDU.
use Rattle.std.proofs.Common.{◌≡◌, ℕ, Bool, true, false, cond, Option, Some, None, Result, Err, refl, ap}
use Rattle.message_types.specs.declared.f1.F1.TheVariants as f1s
use Rattle.aper_defs.specs.Values.{Value, message}
use Rattle.message_defs.specs.profile_defs.Forms.{Form, OutcomeForm, no_form, some_form}
use Rattle.message_defs.specs.profile_defs.Elements as ies
use Rattle.message_defs.specs.profile_defs.Tables.{is_at, outcome_at, message_form}
use Rattle.message_defs.specs.profile_defs.Messages.{f1_messages, f1_setup_request, f1_setup_response, ue_context_setup_request, ue_context_setup_response, ue_context_modification_request, ue_context_modification_response, ue_context_release_command, ue_context_release_complete, dl_rrc_message_transfer, ul_rrc_message_transfer}
use Rattle.message_defs.specs.Fields.{to_number, to_octets, to_peer, to_sn, to_text, to_tunnels, to_ue}
use Rattle.message_defs.specs.Places.{the, elements_in}
use Rattle.message_defs.specs.FromValue.{Cause, unknown_procedure, unknown_element, first_rejected, unless_rejected, rejected_in}
use Rattle.message_defs.specs.F1.{F1Message, f1_at, f1_from_value}

f1_setup_request_in : Value → F1Message
f1_setup_request_in body = f1s.F1SetupRequest (the ies.instance to_number (elements_in body)) (the ies.name to_text (elements_in body))

f1_setup_response_in : Value → F1Message
f1_setup_response_in body = f1s.F1SetupResponse (the ies.instance to_number (elements_in body))

ue_context_setup_request_in : Value → F1Message
ue_context_setup_request_in body = f1s.UeContextSetupRequest (the ies.ue to_ue (elements_in body)) (the ies.instance to_number (elements_in body)) (the ies.epoch to_number (elements_in body)) (the ies.uplinks to_tunnels (elements_in body)) (the ies.sn to_sn (elements_in body)) (the ies.peer to_peer (elements_in body))

ue_context_setup_response_in : Value → F1Message
ue_context_setup_response_in body = f1s.UeContextSetupResponse (the ies.ue to_ue (elements_in body)) (the ies.instance to_number (elements_in body)) (the ies.downlinks to_tunnels (elements_in body))

ue_context_modification_request_in : Value → F1Message
ue_context_modification_request_in body = f1s.UeContextModificationRequest (the ies.ue to_ue (elements_in body)) (the ies.instance to_number (elements_in body)) (the ies.epoch to_number (elements_in body))

ue_context_modification_response_in : Value → F1Message
ue_context_modification_response_in body = f1s.UeContextModificationResponse (the ies.ue to_ue (elements_in body)) (the ies.instance to_number (elements_in body)) (the ies.downlinks to_tunnels (elements_in body))

ue_context_release_command_in : Value → F1Message
ue_context_release_command_in body = f1s.UeContextReleaseCommand (the ies.ue to_ue (elements_in body)) (the ies.instance to_number (elements_in body))

ue_context_release_complete_in : Value → F1Message
ue_context_release_complete_in body = f1s.UeContextReleaseComplete (the ies.ue to_ue (elements_in body)) (the ies.instance to_number (elements_in body))

dl_rrc_message_transfer_in : Value → F1Message
dl_rrc_message_transfer_in body = f1s.DlRrcMessageTransfer (the ies.ue to_ue (elements_in body)) (the ies.container to_octets (elements_in body))

ul_rrc_message_transfer_in : Value → F1Message
ul_rrc_message_transfer_in body = f1s.UlRrcMessageTransfer (the ies.ue to_ue (elements_in body)) (the ies.container to_octets (elements_in body))

module _ (index code criticality : ℕ) (body : Value) where
  unknown_by : (b0 b1 b2 b3 b4 b5 b6 b7 b8 b9 : Bool) (f0 f1 f2 f3 f4 f5 f6 f7 f8 f9 : Form) → (let x : OutcomeForm = cond b0 (some_form f0) (cond b1 (some_form f1) (cond b2 (some_form f2) (cond b3 (some_form f3) (cond b4 (some_form f4) (cond b5 (some_form f5) (cond b6 (some_form f6) (cond b7 (some_form f7) (cond b8 (some_form f8) (cond b9 (some_form f9) (no_form)))))))))) in x) ≡ no_form
      → (let x : Result F1Message Cause = cond b0 (unless_rejected (first_rejected f1_setup_request.elements (elements_in body)) (f1_setup_request_in body)) (cond b1 (unless_rejected (first_rejected f1_setup_response.elements (elements_in body)) (f1_setup_response_in body)) (cond b2 (unless_rejected (first_rejected ue_context_setup_request.elements (elements_in body)) (ue_context_setup_request_in body)) (cond b3 (unless_rejected (first_rejected ue_context_setup_response.elements (elements_in body)) (ue_context_setup_response_in body)) (cond b4 (unless_rejected (first_rejected ue_context_modification_request.elements (elements_in body)) (ue_context_modification_request_in body)) (cond b5 (unless_rejected (first_rejected ue_context_modification_response.elements (elements_in body)) (ue_context_modification_response_in body)) (cond b6 (unless_rejected (first_rejected ue_context_release_command.elements (elements_in body)) (ue_context_release_command_in body)) (cond b7 (unless_rejected (first_rejected ue_context_release_complete.elements (elements_in body)) (ue_context_release_complete_in body)) (cond b8 (unless_rejected (first_rejected dl_rrc_message_transfer.elements (elements_in body)) (dl_rrc_message_transfer_in body)) (cond b9 (unless_rejected (first_rejected ul_rrc_message_transfer.elements (elements_in body)) (ul_rrc_message_transfer_in body)) (Err (unknown_procedure code criticality))))))))))) in x) ≡ Err (unknown_procedure code criticality)
  unknown_by true b1 b2 b3 b4 b5 b6 b7 b8 b9 f0 f1 f2 f3 f4 f5 f6 f7 f8 f9 e = cc
  unknown_by false true b2 b3 b4 b5 b6 b7 b8 b9 f0 f1 f2 f3 f4 f5 f6 f7 f8 f9 e = cc
  unknown_by false false true b3 b4 b5 b6 b7 b8 b9 f0 f1 f2 f3 f4 f5 f6 f7 f8 f9 e = cc
  unknown_by false false false true b4 b5 b6 b7 b8 b9 f0 f1 f2 f3 f4 f5 f6 f7 f8 f9 e = cc
  unknown_by false false false false true b5 b6 b7 b8 b9 f0 f1 f2 f3 f4 f5 f6 f7 f8 f9 e = cc
  unknown_by false false false false false true b6 b7 b8 b9 f0 f1 f2 f3 f4 f5 f6 f7 f8 f9 e = cc
  unknown_by false false false false false false true b7 b8 b9 f0 f1 f2 f3 f4 f5 f6 f7 f8 f9 e = cc
  unknown_by false false false false false false false true b8 b9 f0 f1 f2 f3 f4 f5 f6 f7 f8 f9 e = cc
  unknown_by false false false false false false false false true b9 f0 f1 f2 f3 f4 f5 f6 f7 f8 f9 e = cc
  unknown_by false false false false false false false false false true f0 f1 f2 f3 f4 f5 f6 f7 f8 f9 e = cc
  unknown_by false false false false false false false false false false f0 f1 f2 f3 f4 f5 f6 f7 f8 f9 e = refl

  rejected_by : (id : ℕ) (b0 b1 b2 b3 b4 b5 b6 b7 b8 b9 : Bool) → cond b0 (first_rejected f1_setup_request.elements (elements_in body)) (cond b1 (first_rejected f1_setup_response.elements (elements_in body)) (cond b2 (first_rejected ue_context_setup_request.elements (elements_in body)) (cond b3 (first_rejected ue_context_setup_response.elements (elements_in body)) (cond b4 (first_rejected ue_context_modification_request.elements (elements_in body)) (cond b5 (first_rejected ue_context_modification_response.elements (elements_in body)) (cond b6 (first_rejected ue_context_release_command.elements (elements_in body)) (cond b7 (first_rejected ue_context_release_complete.elements (elements_in body)) (cond b8 (first_rejected dl_rrc_message_transfer.elements (elements_in body)) (cond b9 (first_rejected ul_rrc_message_transfer.elements (elements_in body)) (None)))))))))) ≡ Some id
      → (let x : Result F1Message Cause = cond b0 (unless_rejected (first_rejected f1_setup_request.elements (elements_in body)) (f1_setup_request_in body)) (cond b1 (unless_rejected (first_rejected f1_setup_response.elements (elements_in body)) (f1_setup_response_in body)) (cond b2 (unless_rejected (first_rejected ue_context_setup_request.elements (elements_in body)) (ue_context_setup_request_in body)) (cond b3 (unless_rejected (first_rejected ue_context_setup_response.elements (elements_in body)) (ue_context_setup_response_in body)) (cond b4 (unless_rejected (first_rejected ue_context_modification_request.elements (elements_in body)) (ue_context_modification_request_in body)) (cond b5 (unless_rejected (first_rejected ue_context_modification_response.elements (elements_in body)) (ue_context_modification_response_in body)) (cond b6 (unless_rejected (first_rejected ue_context_release_command.elements (elements_in body)) (ue_context_release_command_in body)) (cond b7 (unless_rejected (first_rejected ue_context_release_complete.elements (elements_in body)) (ue_context_release_complete_in body)) (cond b8 (unless_rejected (first_rejected dl_rrc_message_transfer.elements (elements_in body)) (dl_rrc_message_transfer_in body)) (cond b9 (unless_rejected (first_rejected ul_rrc_message_transfer.elements (elements_in body)) (ul_rrc_message_transfer_in body)) (Err (unknown_procedure code criticality))))))))))) in x) ≡ Err (unknown_element id)
  rejected_by id true b1 b2 b3 b4 b5 b6 b7 b8 b9 e = ap (λ (r : Option ℕ). unless_rejected r (f1_setup_request_in body)) e
  rejected_by id false true b2 b3 b4 b5 b6 b7 b8 b9 e = ap (λ (r : Option ℕ). unless_rejected r (f1_setup_response_in body)) e
  rejected_by id false false true b3 b4 b5 b6 b7 b8 b9 e = ap (λ (r : Option ℕ). unless_rejected r (ue_context_setup_request_in body)) e
  rejected_by id false false false true b4 b5 b6 b7 b8 b9 e = ap (λ (r : Option ℕ). unless_rejected r (ue_context_setup_response_in body)) e
  rejected_by id false false false false true b5 b6 b7 b8 b9 e = ap (λ (r : Option ℕ). unless_rejected r (ue_context_modification_request_in body)) e
  rejected_by id false false false false false true b6 b7 b8 b9 e = ap (λ (r : Option ℕ). unless_rejected r (ue_context_modification_response_in body)) e
  rejected_by id false false false false false false true b7 b8 b9 e = ap (λ (r : Option ℕ). unless_rejected r (ue_context_release_command_in body)) e
  rejected_by id false false false false false false false true b8 b9 e = ap (λ (r : Option ℕ). unless_rejected r (ue_context_release_complete_in body)) e
  rejected_by id false false false false false false false false true b9 e = ap (λ (r : Option ℕ). unless_rejected r (dl_rrc_message_transfer_in body)) e
  rejected_by id false false false false false false false false false true e = ap (λ (r : Option ℕ). unless_rejected r (ul_rrc_message_transfer_in body)) e
  rejected_by id false false false false false false false false false false e = cc

pub unknown : (index code criticality : ℕ) (body : Value) → outcome_at code index f1_messages ≡ no_form
    → f1_from_value (message index code criticality body) ≡ Err (unknown_procedure code criticality)
unfolding f1_from_value f1_at f1_setup_request_in f1_setup_response_in ue_context_setup_request_in ue_context_setup_response_in ue_context_modification_request_in ue_context_modification_response_in ue_context_release_command_in ue_context_release_complete_in dl_rrc_message_transfer_in ul_rrc_message_transfer_in
unknown index code criticality body e = unknown_by index code criticality body (is_at code index f1_setup_request) (is_at code index f1_setup_response) (is_at code index ue_context_setup_request) (is_at code index ue_context_setup_response) (is_at code index ue_context_modification_request) (is_at code index ue_context_modification_response) (is_at code index ue_context_release_command) (is_at code index ue_context_release_complete) (is_at code index dl_rrc_message_transfer) (is_at code index ul_rrc_message_transfer) (message_form f1_setup_request) (message_form f1_setup_response) (message_form ue_context_setup_request) (message_form ue_context_setup_response) (message_form ue_context_modification_request) (message_form ue_context_modification_response) (message_form ue_context_release_command) (message_form ue_context_release_complete) (message_form dl_rrc_message_transfer) (message_form ul_rrc_message_transfer) e

pub rejected : (id : ℕ) (v : Value) → rejected_in f1_messages v ≡ Some id → f1_from_value v ≡ Err (unknown_element id)
unfolding f1_from_value f1_at f1_setup_request_in f1_setup_response_in ue_context_setup_request_in ue_context_setup_response_in ue_context_modification_request_in ue_context_modification_response_in ue_context_release_command_in ue_context_release_complete_in dl_rrc_message_transfer_in ul_rrc_message_transfer_in
rejected id (message index code criticality body) e = rejected_by index code criticality body id (is_at code index f1_setup_request) (is_at code index f1_setup_response) (is_at code index ue_context_setup_request) (is_at code index ue_context_setup_response) (is_at code index ue_context_modification_request) (is_at code index ue_context_modification_response) (is_at code index ue_context_release_command) (is_at code index ue_context_release_complete) (is_at code index dl_rrc_message_transfer) (is_at code index ul_rrc_message_transfer) e
rejected id v e = cc
