-- CoreMessage: why nothing is heard in a value of the PDU.
use Rattle.std.proofs.Common.{◌≡◌, ℕ, Bool, true, false, cond, Option, Some, None, Result, Err, refl, ap}
use Rattle.message_types.specs.declared.xn.CoreMessage.TheVariants as cores
use Rattle.message_types.specs.declared.xn.CoreMessage.{CoreMessage}
use Rattle.aper_defs.specs.Values.{Value, message}
use Rattle.message_defs.specs.profile_defs.Forms.{Form, OutcomeForm, no_form, some_form}
use Rattle.message_defs.specs.profile_defs.Elements as ies
use Rattle.message_defs.specs.profile_defs.Tables.{is_at, outcome_at, message_form}
use Rattle.message_defs.specs.profile_defs.Messages.{core_messages, path_switch_request, path_switch_acknowledge}
use Rattle.message_defs.specs.Fields.{to_number, to_peer, to_tunnels, to_ue}
use Rattle.message_defs.specs.Places.{the, elements_in}
use Rattle.message_defs.specs.FromValue.{Cause, unknown_procedure, unknown_element, first_rejected, unless_rejected, rejected_in}
use Rattle.message_defs.specs.Core.{core_at, core_from_value}

path_switch_request_in : Value → CoreMessage
path_switch_request_in body = cores.PathSwitchRequest (the ies.ue to_ue (elements_in body)) (the ies.instance to_number (elements_in body)) (the ies.peer to_peer (elements_in body)) (the ies.n3 to_tunnels (elements_in body))

path_switch_acknowledge_in : Value → CoreMessage
path_switch_acknowledge_in body = cores.PathSwitchAcknowledge (the ies.ue to_ue (elements_in body)) (the ies.instance to_number (elements_in body))

module _ (index code criticality : ℕ) (body : Value) where
  unknown_by : (b0 b1 : Bool) (f0 f1 : Form) → (let x : OutcomeForm = cond b0 (some_form f0) (cond b1 (some_form f1) (no_form)) in x) ≡ no_form
      → (let x : Result CoreMessage Cause = cond b0 (unless_rejected (first_rejected path_switch_request.elements (elements_in body)) (path_switch_request_in body)) (cond b1 (unless_rejected (first_rejected path_switch_acknowledge.elements (elements_in body)) (path_switch_acknowledge_in body)) (Err (unknown_procedure code criticality))) in x) ≡ Err (unknown_procedure code criticality)
  unknown_by true b1 f0 f1 e = cc
  unknown_by false true f0 f1 e = cc
  unknown_by false false f0 f1 e = refl

  rejected_by : (id : ℕ) (b0 b1 : Bool) → cond b0 (first_rejected path_switch_request.elements (elements_in body)) (cond b1 (first_rejected path_switch_acknowledge.elements (elements_in body)) (None)) ≡ Some id
      → (let x : Result CoreMessage Cause = cond b0 (unless_rejected (first_rejected path_switch_request.elements (elements_in body)) (path_switch_request_in body)) (cond b1 (unless_rejected (first_rejected path_switch_acknowledge.elements (elements_in body)) (path_switch_acknowledge_in body)) (Err (unknown_procedure code criticality))) in x) ≡ Err (unknown_element id)
  rejected_by id true b1 e = ap (λ (r : Option ℕ). unless_rejected r (path_switch_request_in body)) e
  rejected_by id false true e = ap (λ (r : Option ℕ). unless_rejected r (path_switch_acknowledge_in body)) e
  rejected_by id false false e = cc

pub unknown : (index code criticality : ℕ) (body : Value) → outcome_at code index core_messages ≡ no_form
    → core_from_value (message index code criticality body) ≡ Err (unknown_procedure code criticality)
unfolding core_from_value core_at path_switch_request_in path_switch_acknowledge_in
unknown index code criticality body e = unknown_by index code criticality body (is_at code index path_switch_request) (is_at code index path_switch_acknowledge) (message_form path_switch_request) (message_form path_switch_acknowledge) e

pub rejected : (id : ℕ) (v : Value) → rejected_in core_messages v ≡ Some id → core_from_value v ≡ Err (unknown_element id)
unfolding core_from_value core_at path_switch_request_in path_switch_acknowledge_in
rejected id (message index code criticality body) e = rejected_by index code criticality body id (is_at code index path_switch_request) (is_at code index path_switch_acknowledge) e
rejected id v e = cc
