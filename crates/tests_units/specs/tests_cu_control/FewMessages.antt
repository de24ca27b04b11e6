-- A codec of few messages, for tests: of each message its kind, its terminal and its instance, each below 256 in one octet, and a number
-- of some; lists of one bearer; and octets that are dropped.
use Rattle.std.specs.Prelude.{◌==◌, ℕ, ◌%◌, nat_lt, if◌then◌else◌, List, [], ◌∷◌, Option, None, Some, Result, Ok, Err}
use Rattle.gnb_types.specs.declared.names.Gnb.TheVariants.{B}
use Rattle.gnb_types.specs.declared.names.UeId.{UeId}
use Rattle.gnb_types.specs.declared.plans.SnStatus.{SnStatus}
use Rattle.gnb_types.specs.declared.plans.Tunnel.{Tunnel}
use Rattle.gnb_types.specs.declared.reasons.DropReason.{DropReason}
use Rattle.gnb_types.specs.declared.reasons.DropReason.TheVariants.{Undecodable, Criticality}
use Rattle.message_types.specs.declared.f1.F1.{F1}
use Rattle.message_types.specs.declared.f1.F1.TheVariants.{F1SetupRequest, F1SetupResponse, UeContextSetupRequest, UeContextSetupResponse, UeContextModificationRequest, UeContextModificationResponse, UeContextReleaseCommand, UeContextReleaseComplete, DlRrcMessageTransfer, UlRrcMessageTransfer}
use Rattle.message_types.specs.declared.e1.E1Message.{E1Message}
use Rattle.message_types.specs.declared.e1.E1Message.TheVariants.{E1SetupRequest, E1SetupResponse, BearerContextSetupRequest, BearerContextSetupResponse, BearerContextModificationRequest, BearerContextModificationResponse, BearerContextReleaseCommand, BearerContextReleaseComplete}
use Rattle.message_types.specs.declared.xn.XnMessage.{XnMessage}
use Rattle.message_types.specs.declared.xn.XnMessage.TheVariants.{HandoverRequest, HandoverRequestAcknowledge, HandoverPreparationFailure, SnStatusTransfer, HandoverCancel, TransportConfirm}
use Rattle.message_types.specs.declared.xn.CoreMessage.{CoreMessage}
use Rattle.message_types.specs.declared.xn.CoreMessage.TheVariants.{PathSwitchRequest, PathSwitchAcknowledge}
use Rattle.message_types.specs.declared.rrc.Token.{Token}
use Rattle.message_types.specs.declared.rrc.Token.TheVariants.{Command, Complete, Reestablish, Accepted}
use Rattle.unit_defs.specs.Ways.{Message, f1, e1, xn, core, rrc}
use Rattle.unit_defs.specs.octet_defs.Codec.{Codec}

abbrev pub marked : ℕ → UeId → ℕ → List ℕ
marked kind ue instance = kind ∷ ue.0 ∷ instance % 256 ∷ []

abbrev pub numbered : ℕ → UeId → ℕ → ℕ → List ℕ
numbered kind ue instance number = kind ∷ ue.0 ∷ instance % 256 ∷ number % 256 ∷ []

-- ---- what a CU-CP says

abbrev pub encoded_token : Token → List ℕ
encoded_token (Command ue epoch gnb du) = marked 1 ue epoch
encoded_token (Complete ue epoch) = marked 2 ue epoch
encoded_token (Reestablish ue epoch) = marked 3 ue epoch
encoded_token (Accepted ue epoch) = marked 4 ue epoch

abbrev pub encoded_f1 : F1 (List ℕ) → List ℕ
encoded_f1 (F1SetupResponse instance) = marked 17 (record { 0 = 0 }) instance
encoded_f1 (UeContextSetupRequest ue instance epoch uplinks sn peer) = numbered 18 ue instance epoch
encoded_f1 (UeContextModificationRequest ue instance epoch) = numbered 19 ue instance epoch
encoded_f1 (UeContextReleaseCommand ue instance) = marked 20 ue instance
encoded_f1 (DlRrcMessageTransfer ue container) = 21 ∷ ue.0 ∷ container
encoded_f1 message = []

abbrev pub encoded_e1 : E1Message → List ℕ
encoded_e1 (E1SetupResponse instance) = marked 33 (record { 0 = 0 }) instance
encoded_e1 (BearerContextSetupRequest ue instance bearers sn quota forward) = marked 34 ue instance
encoded_e1 (BearerContextModificationRequest ue instance downlinks mode peer down up statuses du) = numbered 35 ue instance mode
encoded_e1 (BearerContextReleaseCommand ue instance is_final) = marked 36 ue instance
encoded_e1 message = []

abbrev pub encoded_xn : XnMessage → List ℕ
encoded_xn (HandoverRequest ue instance epoch bearers sn quota peer du origin) = numbered 49 ue instance epoch
encoded_xn (SnStatusTransfer ue instance statuses) = marked 52 ue instance
encoded_xn (HandoverCancel ue instance) = marked 53 ue instance
encoded_xn (TransportConfirm ue instance) = marked 55 ue instance
encoded_xn message = []

abbrev pub encoded_core : CoreMessage → List ℕ
encoded_core (PathSwitchRequest ue instance peer n3) = marked 65 ue instance
encoded_core (PathSwitchAcknowledge ue instance) = []

abbrev pub spelled : Message (List ℕ) → List ℕ
spelled (f1 message) = encoded_f1 message
spelled (e1 message) = encoded_e1 message
spelled (xn message) = encoded_xn message
spelled (core message) = encoded_core message
spelled (rrc token) = encoded_token token

-- ---- what it hears

abbrev pub tunnel : ℕ → List Tunnel
tunnel teid = record { bearer = record { 0 = 1 }; teid = teid } ∷ []

abbrev pub status : List SnStatus
status = record { bearer = record { 0 = 1 }; dl_next = 0; ul_first = 0; ul_received = None } ∷ []

abbrev pub received_f1 : ℕ → UeId → ℕ → Result (Message (List ℕ)) DropReason
received_f1 kind ue instance =
    if kind == 17 then Ok (f1 (F1SetupRequest instance [])) else (if kind == 18 then Ok (f1 (UeContextSetupResponse ue instance (tunnel 3))) else (if kind == 19 then Ok (f1 (UeContextModificationResponse ue instance (tunnel 3))) else (if kind == 20 then Ok (f1 (UeContextReleaseComplete ue instance)) else Err Undecodable)))

abbrev pub received_e1 : ℕ → UeId → ℕ → Result (Message (List ℕ)) DropReason
received_e1 kind ue instance =
    if kind == 33 then Ok (e1 (E1SetupRequest instance [])) else (if kind == 34 then Ok (e1 (BearerContextSetupResponse ue instance (tunnel 1) (tunnel 2) None None)) else (if kind == 35 then Ok (e1 (BearerContextModificationResponse ue instance None (Some status))) else (if kind == 36 then Ok (e1 (BearerContextReleaseComplete ue instance)) else Err Undecodable)))

abbrev pub received_xn : ℕ → UeId → ℕ → Result (Message (List ℕ)) DropReason
received_xn kind ue instance =
    if kind == 50 then Ok (xn (HandoverRequestAcknowledge ue instance (record { gnb = B; up = 1 }) (tunnel 5) (tunnel 6))) else (if kind == 51 then Ok (xn (HandoverPreparationFailure ue instance 1)) else (if kind == 53 then Ok (xn (HandoverCancel ue instance)) else (if kind == 55 then Ok (xn (TransportConfirm ue instance)) else (if kind == 65 then Ok (core (PathSwitchAcknowledge ue instance)) else Err Undecodable))))

abbrev pub received_mark : ℕ → UeId → ℕ → Result (Message (List ℕ)) DropReason
received_mark kind ue instance = if nat_lt kind 32 then received_f1 kind ue instance else (if nat_lt kind 48 then received_e1 kind ue instance else received_xn kind ue instance)

-- by their count
abbrev pub heard : List ℕ → Result (Message (List ℕ)) DropReason
heard (octet ∷ []) = Err Criticality
heard (kind ∷ ue ∷ instance ∷ []) = received_mark kind (record { 0 = ue }) instance
heard (ue ∷ token ∷ whose ∷ epoch ∷ []) = Ok (f1 (UlRrcMessageTransfer (record { 0 = ue }) (token ∷ whose ∷ epoch ∷ [])))
heard octets = Err Undecodable

abbrev pub received_token : List ℕ → Option Token
received_token (kind ∷ ue ∷ epoch ∷ []) =
    if kind == 2 then Some (Complete (record { 0 = ue }) epoch) else (if kind == 3 then Some (Reestablish (record { 0 = ue }) epoch) else None)
received_token octets = None

abbrev pub few_messages : Codec
few_messages = record {
  encode = spelled;
  read = λ from to octets. heard octets;
  read_token = received_token;
  read_item = λ link sn octets. None;
  read_pdu = λ sn octets. None;
}
