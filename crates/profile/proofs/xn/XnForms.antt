-- XnAP-PDU of version 2, with OPTIONAL at the addition of HandoverRequest or not.
use Rattle.std.specs.Prelude.{List, ◌∷◌, [], Bool, false, codes}
use Rattle.aper_defs.specs.Trees.{Tree}
use Rattle.message_defs.specs.profile_defs.Forms.{Form, Components, component, no_components, container, tree}
use Rattle.message_defs.specs.profile_defs.BaseTypes as base
use Rattle.message_defs.specs.profile_defs.Tables.{Message, element_rows, message_form, pdu_form}
use Rattle.message_defs.specs.profile_defs.Messages.{handover_request, handover_request_acknowledge, handover_preparation_failure, sn_status_transfer, handover_cancel, ue_context_release, transport_confirm}

abbrev pub additions : Bool → Components
additions optional = component (codes "origin") optional base.name no_components

abbrev pub root : Components
root = component (codes "protocolIEs") false (container (element_rows (handover_request 2).elements)) no_components

abbrev pub request : Bool → Message
request optional = record {
  name = (handover_request 2).name;
  code = (handover_request 2).code;
  outcome = (handover_request 2).outcome;
  elements = (handover_request 2).elements;
  additions = additions optional;
}

-- the messages without an initiating one of code 1
abbrev pub later_messages : List Message
later_messages = sn_status_transfer ∷ handover_cancel ∷ ue_context_release ∷ transport_confirm ∷ []

abbrev pub messages : Bool → List Message
messages optional = request optional ∷ handover_request_acknowledge ∷ handover_preparation_failure ∷ later_messages

abbrev pub xn_form : Bool → Form
xn_form optional = pdu_form (codes "XnAP-PDU") (messages optional)

abbrev pub request_tree : Bool → Tree
request_tree optional = tree (message_form (request optional))
