-- A codec of few messages, for tests: F1AP and tokens in octets that each field below 256 has one of, uplinks of one bearer to CU-UP 1 of
-- gNB A, commands of gNB A alone, and octets that are dropped.
use Rattle.std.specs.Prelude.{◌==◌, ℕ, ◌%◌, if◌then◌else◌, List, [], ◌∷◌, Option, None, Some, Result, Ok, Err}
use Rattle.gnb_types.specs.declared.names.Gnb.TheVariants.{A}
use Rattle.gnb_types.specs.declared.names.SnBits.TheVariants.{Len12}
use Rattle.gnb_types.specs.declared.names.UeId.{UeId}
use Rattle.gnb_types.specs.declared.plans.Tunnel.{Tunnel}
use Rattle.gnb_types.specs.declared.reasons.DropReason.{DropReason}
use Rattle.gnb_types.specs.declared.reasons.DropReason.TheVariants.{Undecodable, Criticality}
use Rattle.message_types.specs.declared.f1.F1.{F1}
use Rattle.message_types.specs.declared.f1.F1.TheVariants.{F1SetupRequest, F1SetupResponse, UeContextSetupRequest, UeContextSetupResponse, UeContextModificationRequest, UeContextModificationResponse, UeContextReleaseCommand, UeContextReleaseComplete, DlRrcMessageTransfer, UlRrcMessageTransfer}
use Rattle.message_types.specs.declared.rrc.Token.{Token}
use Rattle.message_types.specs.declared.rrc.Token.TheVariants.{Command, Complete, Reestablish, Accepted}
use Rattle.unit_defs.specs.Ways.{Message, f1, rrc}
use Rattle.unit_defs.specs.octet_defs.Codec.{Codec}

-- a reply with the TEID of the one bearer, if there is one
abbrev pub encoded_reply : ℕ → UeId → ℕ → List Tunnel → List ℕ
encoded_reply kind ue instance (tunnel ∷ []) = kind ∷ ue.0 ∷ instance % 256 ∷ tunnel.bearer.0 ∷ tunnel.teid % 256 ∷ []
encoded_reply kind ue instance tunnels = kind ∷ ue.0 ∷ instance % 256 ∷ []

abbrev pub encoded_token : Token → List ℕ
encoded_token (Command ue epoch gnb du) = 0 ∷ ue.0 ∷ epoch % 256 ∷ du ∷ []
encoded_token (Complete ue epoch) = 32 ∷ ue.0 ∷ epoch % 256 ∷ 0 ∷ []
encoded_token (Reestablish ue epoch) = 64 ∷ ue.0 ∷ epoch % 256 ∷ 0 ∷ []
encoded_token (Accepted ue epoch) = 96 ∷ ue.0 ∷ epoch % 256 ∷ 0 ∷ []

-- what a DU says
abbrev pub encoded_f1 : F1 (List ℕ) → List ℕ
encoded_f1 (F1SetupRequest instance name) = 1 ∷ instance % 256 ∷ name
encoded_f1 (UeContextSetupResponse ue instance downlinks) = encoded_reply 18 ue instance downlinks
encoded_f1 (UeContextModificationResponse ue instance downlinks) = encoded_reply 19 ue instance downlinks
encoded_f1 (UeContextReleaseComplete ue instance) = encoded_reply 20 ue instance []
encoded_f1 (UlRrcMessageTransfer ue container) = 6 ∷ ue.0 ∷ container
encoded_f1 message = []

abbrev pub spelled : Message (List ℕ) → List ℕ
spelled (f1 message) = encoded_f1 message
spelled (rrc token) = encoded_token token
spelled message = []

-- what it hears
abbrev pub received_token : ℕ → UeId → ℕ → ℕ → Option Token
received_token kind ue epoch du =
    if kind == 0 then Some (Command ue epoch A du) else (if kind == 32 then Some (Complete ue epoch) else (if kind == 64 then Some (Reestablish ue epoch) else (if kind == 96 then Some (Accepted ue epoch) else None)))

abbrev pub token_message : Option Token → Result (Message (List ℕ)) DropReason
token_message (Some token) = Ok (rrc token)
token_message None = Err Undecodable

abbrev pub received_mark : ℕ → UeId → ℕ → ℕ → Result (Message (List ℕ)) DropReason
received_mark kind ue number epoch =
    if kind == 3 then Ok (f1 (UeContextModificationRequest ue number epoch)) else token_message (received_token kind ue number epoch)

abbrev pub heard : List ℕ → Result (Message (List ℕ)) DropReason
heard (octet ∷ []) = Err Criticality
heard (kind ∷ instance ∷ []) = Ok (f1 (F1SetupResponse instance))
heard (kind ∷ ue ∷ instance ∷ []) = Ok (f1 (UeContextReleaseCommand (record { 0 = ue }) instance))
heard (kind ∷ ue ∷ number ∷ epoch ∷ []) = received_mark kind (record { 0 = ue }) number epoch
heard (kind ∷ ue ∷ instance ∷ epoch ∷ bearer ∷ teid ∷ []) =
    Ok (f1 (UeContextSetupRequest (record { 0 = ue }) instance epoch (record { bearer = record { 0 = bearer }; teid = teid } ∷ []) Len12 (record { gnb = A; up = 1 })))
heard (kind ∷ ue ∷ length ∷ first ∷ second ∷ third ∷ fourth ∷ []) =
    Ok (f1 (DlRrcMessageTransfer (record { 0 = ue }) (first ∷ second ∷ third ∷ fourth ∷ [])))
heard octets = Err Undecodable

abbrev pub few_messages : Codec
few_messages = record {
  encode = spelled;
  read = λ from to octets. heard octets;
  read_token = λ octets. None;
  read_item = λ link sn octets. None;
  read_pdu = λ sn octets. None;
}
