-- A codec of few messages, for tests: E1AP in octets, requests for bearer 1 alone, and octets that are dropped. Each field below 256 has one
-- octet, and the COUNTs of an SN status have three.
use Rattle.std.specs.Prelude.{◌==◌, ℕ, ◌+◌, ◌*◌, ◌%◌, if◌then◌else◌, List, [], ◌∷◌, ◌++◌, Option, None, Some, Result, Ok, Err}
use Rattle.gnb_types.specs.declared.names.Gnb.TheVariants.{B}
use Rattle.gnb_types.specs.declared.names.SnBits.{SnBits}
use Rattle.gnb_types.specs.declared.names.SnBits.TheVariants.{Len12, Len18}
use Rattle.gnb_types.specs.declared.plans.Tunnel.{Tunnel}
use Rattle.gnb_types.specs.declared.plans.SnStatus.{SnStatus}
use Rattle.gnb_types.specs.declared.reasons.DropReason.{DropReason}
use Rattle.gnb_types.specs.declared.reasons.DropReason.TheVariants.{Undecodable, Criticality}
use Rattle.message_types.specs.declared.e1.E1Message.{E1Message}
use Rattle.message_types.specs.declared.e1.E1Message.TheVariants as e1s
use Rattle.unit_defs.specs.Ways.{Message, e1}
use Rattle.unit_defs.specs.octet_defs.Codec.{Codec}

-- what a CU-UP says, with the TEIDs and the COUNTs of the one bearer, if there is one
abbrev pub teid_in : List Tunnel → ℕ
teid_in (tunnel ∷ []) = tunnel.teid % 256
teid_in tunnels = 0

abbrev pub some_teid_in : Option (List Tunnel) → ℕ
some_teid_in None = 0
some_teid_in (Some tunnels) = teid_in tunnels

abbrev pub counts_in : List SnStatus → List ℕ
counts_in (status ∷ []) = status.dl_next % 256 ∷ status.ul_first % 256 ∷ []
counts_in statuses = []

abbrev pub some_counts_in : Option (List SnStatus) → List ℕ
some_counts_in None = []
some_counts_in (Some statuses) = counts_in statuses

abbrev pub encoded_e1 : E1Message → List ℕ
encoded_e1 (e1s.E1SetupRequest instance name) = 1 ∷ instance % 256 ∷ name
encoded_e1 (e1s.BearerContextSetupResponse ue instance uplinks n3 down up) =
    18 ∷ ue.0 ∷ instance % 256 ∷ teid_in uplinks ∷ teid_in n3 ∷ some_teid_in down ∷ some_teid_in up ∷ []
encoded_e1 (e1s.BearerContextSetupFailure ue instance cause) = 34 ∷ ue.0 ∷ instance % 256 ∷ cause % 256 ∷ []
encoded_e1 (e1s.BearerContextModificationResponse ue instance uplinks statuses) =
    (19 ∷ ue.0 ∷ instance % 256 ∷ some_teid_in uplinks ∷ []) ++ some_counts_in statuses
encoded_e1 (e1s.BearerContextModificationFailure ue instance cause) = 35 ∷ ue.0 ∷ instance % 256 ∷ cause % 256 ∷ []
encoded_e1 (e1s.BearerContextReleaseComplete ue instance) = 20 ∷ ue.0 ∷ instance % 256 ∷ []
encoded_e1 message = []

abbrev pub spelled : Message (List ℕ) → List ℕ
spelled (e1 message) = encoded_e1 message
spelled message = []

-- what it hears, of bearer 1
abbrev pub tunnel_at : ℕ → List Tunnel
tunnel_at teid = record { bearer = record { 0 = 1 }; teid = teid } ∷ []

abbrev pub status_at : ℕ → ℕ → List SnStatus
status_at dl_next ul_first = record { bearer = record { 0 = 1 }; dl_next = dl_next; ul_first = ul_first; ul_received = None } ∷ []

-- 12 bits, or 18 with the kind 3
abbrev pub received_sn : ℕ → SnBits
received_sn kind = if kind == 3 then Len18 else Len12

abbrev pub wide : ℕ → ℕ → ℕ → ℕ
wide low middle high = low + 256 * middle + 65536 * high

abbrev pub received_order : ℕ → ℕ → ℕ → ℕ → E1Message
received_order kind ue instance number =
    if kind == 5 then e1s.BearerContextReleaseCommand (record { 0 = ue }) instance (number == 1)
    else e1s.BearerContextModificationRequest (record { 0 = ue }) instance None number None None None None None

abbrev pub received_e1 : List ℕ → Option E1Message
received_e1 (kind ∷ instance ∷ []) = Some (e1s.E1SetupResponse instance)
received_e1 (kind ∷ ue ∷ instance ∷ number ∷ []) = Some (received_order kind ue instance number)
received_e1 (kind ∷ ue ∷ instance ∷ du ∷ teid ∷ []) =
    Some (e1s.BearerContextModificationRequest (record { 0 = ue }) instance (Some (tunnel_at teid)) 1 None None None None (Some du))
received_e1 (kind ∷ ue ∷ instance ∷ count ∷ quota ∷ forward ∷ []) =
    Some (e1s.BearerContextSetupRequest (record { 0 = ue }) instance (count % 8 + 1) (received_sn kind) (quota % 256 * 16 + 4) (forward == 1))
received_e1 (kind ∷ ue ∷ instance ∷ some ∷ number ∷ down ∷ up ∷ []) =
    Some (e1s.BearerContextModificationRequest (record { 0 = ue }) instance None 2 (Some (record { gnb = B; up = number })) (Some (tunnel_at down)) (Some (tunnel_at up)) None None)
received_e1 (kind ∷ ue ∷ instance ∷ dl_next ∷ ul_first ∷ down ∷ up ∷ high ∷ []) =
    Some (e1s.BearerContextModificationRequest (record { 0 = ue }) instance None 3 None None None
    (Some (status_at (wide dl_next down high) (wide ul_first up high))) None)
received_e1 octets = None

abbrev pub heard_of : Option E1Message → Result (Message (List ℕ)) DropReason
heard_of (Some message) = Ok (e1 message)
heard_of None = Err Undecodable

abbrev pub heard : List ℕ → Result (Message (List ℕ)) DropReason
heard (octet ∷ []) = Err Criticality
heard octets = heard_of (received_e1 octets)

abbrev pub few_messages : Codec
few_messages = record {
  encode = spelled;
  read = λ from to octets. heard octets;
  read_token = λ octets. None;
  read_item = λ link sn octets. None;
  read_pdu = λ sn octets. None;
}
