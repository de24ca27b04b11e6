-- The profile's messages: of each its procedure's code, its outcome, its name, and its information elements in their order. The sets of
-- the module come from this table, and so does what a value says.
use Rattle.std.specs.Prelude.{ℕ, ◌==◌, List, [], ◌∷◌, false, codes, if◌then◌else◌}
use Rattle.message_defs.specs.profile_defs.Forms.{no_components, component}
use Rattle.message_defs.specs.profile_defs.BaseTypes as types
use Rattle.message_defs.specs.profile_defs.Elements.{Element}
use Rattle.message_defs.specs.profile_defs.Elements as ies
use Rattle.message_defs.specs.profile_defs.Tables.{Message, message, mandatory, optional, initiating, successful, unsuccessful}

-- ---- F1AP (TS 38.473), between a CU-CP and a DU
-- F1 Setup (8.2.3)
abbrev pub f1_setup_request : Message
f1_setup_request = message 1 initiating (codes "F1SetupRequest")
    (mandatory ies.instance ∷ mandatory ies.name ∷ [])

abbrev pub f1_setup_response : Message
f1_setup_response = message 1 successful (codes "F1SetupResponse")
    (mandatory ies.instance ∷ [])

-- UE Context Setup (8.3.1)
abbrev pub ue_context_setup_request : Message
ue_context_setup_request = message 2 initiating (codes "UEContextSetupRequest")
    (mandatory ies.ue ∷ mandatory ies.instance ∷ mandatory ies.epoch ∷ mandatory ies.uplinks ∷ mandatory ies.sn ∷ mandatory ies.peer ∷ [])

abbrev pub ue_context_setup_response : Message
ue_context_setup_response = message 2 successful (codes "UEContextSetupResponse")
    (mandatory ies.ue ∷ mandatory ies.instance ∷ mandatory ies.downlinks ∷ [])

-- UE Context Modification (8.3.4)
abbrev pub ue_context_modification_request : Message
ue_context_modification_request = message 3 initiating (codes "UEContextModificationRequest")
    (mandatory ies.ue ∷ mandatory ies.instance ∷ mandatory ies.epoch ∷ [])

abbrev pub ue_context_modification_response : Message
ue_context_modification_response = message 3 successful (codes "UEContextModificationResponse")
    (mandatory ies.ue ∷ mandatory ies.instance ∷ mandatory ies.downlinks ∷ [])

-- UE Context Release (8.3.3)
abbrev pub ue_context_release_command : Message
ue_context_release_command = message 4 initiating (codes "UEContextReleaseCommand")
    (mandatory ies.ue ∷ mandatory ies.instance ∷ [])

abbrev pub ue_context_release_complete : Message
ue_context_release_complete = message 4 successful (codes "UEContextReleaseComplete")
    (mandatory ies.ue ∷ mandatory ies.instance ∷ [])

-- DL RRC Message Transfer (8.4.2)
abbrev pub dl_rrc_message_transfer : Message
dl_rrc_message_transfer = message 5 initiating (codes "DLRRCMessageTransfer")
    (mandatory ies.ue ∷ mandatory ies.container ∷ [])

-- UL RRC Message Transfer (8.4.3)
abbrev pub ul_rrc_message_transfer : Message
ul_rrc_message_transfer = message 6 initiating (codes "ULRRCMessageTransfer")
    (mandatory ies.ue ∷ mandatory ies.container ∷ [])

-- ---- E1AP (TS 37.483), between a CU-CP and a CU-UP
-- E1 Setup (8.2.3)
abbrev pub e1_setup_request : Message
e1_setup_request = message 1 initiating (codes "E1SetupRequest")
    (mandatory ies.instance ∷ mandatory ies.name ∷ [])

abbrev pub e1_setup_response : Message
e1_setup_response = message 1 successful (codes "E1SetupResponse")
    (mandatory ies.instance ∷ [])

-- Bearer Context Setup (8.3.1)
abbrev pub bearer_context_setup_request : Message
bearer_context_setup_request = message 2 initiating (codes "BearerContextSetupRequest")
    (mandatory ies.ue ∷ mandatory ies.instance ∷ mandatory ies.bearers ∷ mandatory ies.sn ∷ mandatory ies.quota ∷ mandatory ies.forward ∷ [])

abbrev pub bearer_context_setup_response : Message
bearer_context_setup_response = message 2 successful (codes "BearerContextSetupResponse")
    (mandatory ies.ue ∷ mandatory ies.instance ∷ mandatory ies.uplinks ∷ mandatory ies.n3 ∷ optional ies.forward_down ∷ optional ies.forward_up ∷ [])

abbrev pub bearer_context_setup_failure : Message
bearer_context_setup_failure = message 2 unsuccessful (codes "BearerContextSetupFailure")
    (mandatory ies.ue ∷ mandatory ies.instance ∷ mandatory ies.cause ∷ [])

-- Bearer Context Modification (8.3.2)
abbrev pub bearer_context_modification_request : Message
bearer_context_modification_request = message 3 initiating (codes "BearerContextModificationRequest")
    (mandatory ies.ue ∷ mandatory ies.instance ∷ optional ies.downlinks ∷ mandatory ies.mode ∷ optional ies.peer ∷ optional ies.forward_down ∷ optional ies.forward_up ∷ optional ies.statuses ∷ optional ies.du ∷ [])

abbrev pub bearer_context_modification_response : Message
bearer_context_modification_response = message 3 successful (codes "BearerContextModificationResponse")
    (mandatory ies.ue ∷ mandatory ies.instance ∷ optional ies.uplinks ∷ optional ies.statuses ∷ [])

abbrev pub bearer_context_modification_failure : Message
bearer_context_modification_failure = message 3 unsuccessful (codes "BearerContextModificationFailure")
    (mandatory ies.ue ∷ mandatory ies.instance ∷ mandatory ies.cause ∷ [])

-- Bearer Context Release (8.3.4)
abbrev pub bearer_context_release_command : Message
bearer_context_release_command = message 4 initiating (codes "BearerContextReleaseCommand")
    (mandatory ies.ue ∷ mandatory ies.instance ∷ mandatory ies.is_final ∷ [])

abbrev pub bearer_context_release_complete : Message
bearer_context_release_complete = message 4 successful (codes "BearerContextReleaseComplete")
    (mandatory ies.ue ∷ mandatory ies.instance ∷ [])

-- ---- XnAP (TS 38.423), between two CU-CPs
-- Handover Preparation (8.2.1). Version 2 of the profile adds the name of the source.
abbrev pub handover_request : (version : ℕ) → Message
handover_request version = record {
  name = codes "HandoverRequest";
  code = 1;
  outcome = initiating;
  elements = mandatory ies.ue ∷ mandatory ies.instance ∷ mandatory ies.epoch ∷ mandatory ies.bearers ∷ mandatory ies.sn ∷ mandatory ies.quota ∷ mandatory ies.peer ∷ mandatory ies.du ∷ [];
  additions = if version == 2 then component (codes "origin") false types.name no_components else no_components;
}

abbrev pub handover_request_acknowledge : Message
handover_request_acknowledge = message 1 successful (codes "HandoverRequestAcknowledge")
    (mandatory ies.ue ∷ mandatory ies.instance ∷ mandatory ies.peer ∷ mandatory ies.forward_down ∷ mandatory ies.forward_up ∷ [])

abbrev pub handover_preparation_failure : Message
handover_preparation_failure = message 1 unsuccessful (codes "HandoverPreparationFailure")
    (mandatory ies.ue ∷ mandatory ies.instance ∷ mandatory ies.cause ∷ [])

-- SN Status Transfer (8.2.2)
abbrev pub sn_status_transfer : Message
sn_status_transfer = message 2 initiating (codes "SNStatusTransfer")
    (mandatory ies.ue ∷ mandatory ies.instance ∷ mandatory ies.statuses ∷ [])

-- Handover Cancel (8.2.3)
abbrev pub handover_cancel : Message
handover_cancel = message 3 initiating (codes "HandoverCancel")
    (mandatory ies.ue ∷ mandatory ies.instance ∷ [])

-- UE Context Release (8.2.7)
abbrev pub ue_context_release : Message
ue_context_release = message 4 initiating (codes "UEContextRelease")
    (mandatory ies.ue ∷ mandatory ies.instance ∷ [])

-- what answers the three before, which have no response in the standard; the profile's own
abbrev pub transport_confirm : Message
transport_confirm = message 5 initiating (codes "TransportConfirm")
    (mandatory ies.ue ∷ mandatory ies.instance ∷ [])

-- ---- between a CU-CP and the core, in place of NGAP (TS 38.413)
-- Path Switch Request (8.4.4)
abbrev pub path_switch_request : Message
path_switch_request = message 1 initiating (codes "PathSwitchRequest")
    (mandatory ies.ue ∷ mandatory ies.instance ∷ mandatory ies.peer ∷ mandatory ies.n3 ∷ [])

abbrev pub path_switch_acknowledge : Message
path_switch_acknowledge = message 1 successful (codes "PathSwitchAcknowledge")
    (mandatory ies.ue ∷ mandatory ies.instance ∷ [])

-- ---- the messages of each interface
abbrev pub f1_messages : List Message
f1_messages = f1_setup_request ∷ f1_setup_response ∷ ue_context_setup_request ∷ ue_context_setup_response ∷ ue_context_modification_request ∷ ue_context_modification_response ∷ ue_context_release_command ∷ ue_context_release_complete ∷ dl_rrc_message_transfer ∷ ul_rrc_message_transfer ∷ []

abbrev pub e1_messages : List Message
e1_messages = e1_setup_request ∷ e1_setup_response ∷ bearer_context_setup_request ∷ bearer_context_setup_response ∷ bearer_context_setup_failure ∷ bearer_context_modification_request ∷ bearer_context_modification_response ∷ bearer_context_modification_failure ∷ bearer_context_release_command ∷ bearer_context_release_complete ∷ []

abbrev pub xn_messages : (version : ℕ) → List Message
xn_messages version = handover_request version ∷ handover_request_acknowledge ∷ handover_preparation_failure ∷ sn_status_transfer ∷ handover_cancel ∷ ue_context_release ∷ transport_confirm ∷ []

abbrev pub core_messages : List Message
core_messages = path_switch_request ∷ path_switch_acknowledge ∷ []
