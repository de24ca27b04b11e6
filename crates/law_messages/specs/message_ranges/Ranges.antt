-- Messages whose fields lie in the ranges of the profile's types; names and containers have at most 16,000 characters or octets, so that what
-- is around them fits an open type too.
use Rattle.std.specs.Prelude.{◌≡◌, ℕ, List, length, Bool, true, Option, Some, None, ◌&&◌, nat_lt, nat_le, pos}
use Rattle.std.specs.List.{list_all}
use Rattle.gnb_types.specs.declared.names.UeId.{UeId}
use Rattle.gnb_types.specs.declared.plans.Peer.{Peer}
use Rattle.gnb_types.specs.declared.plans.Tunnel.{Tunnel}
use Rattle.gnb_types.specs.declared.plans.SnStatus.{SnStatus}
use Rattle.message_types.specs.declared.f1.F1.TheVariants as f1s
use Rattle.message_types.specs.declared.e1.E1Message.{E1Message}
use Rattle.message_types.specs.declared.e1.E1Message.TheVariants as e1s
use Rattle.message_types.specs.declared.xn.XnMessage.{XnMessage}
use Rattle.message_types.specs.declared.xn.XnMessage.TheVariants as xns
use Rattle.message_types.specs.declared.xn.CoreMessage.{CoreMessage}
use Rattle.message_types.specs.declared.xn.CoreMessage.TheVariants as cores
use Rattle.aper_defs.specs.Numbers.{in_range}
use Rattle.aper_defs.specs.Membership.{is_printable, are_octets}
use Rattle.message_defs.specs.F1.{F1Message}

abbrev pub is_between : ℕ → ℕ → ℕ → Bool
is_between low high n = in_range (pos low) (pos high) (pos n)

abbrev pub is_ue : UeId → Bool
is_ue ue = is_between 1 16 ue.0

abbrev pub is_bearer : ℕ → Bool
is_bearer n = is_between 1 8 n

abbrev pub is_word : ℕ → Bool
is_word n = is_between 0 4294967295 n

abbrev pub is_unit : ℕ → Bool
is_unit n = is_between 1 2 n

abbrev pub is_quota : ℕ → Bool
is_quota n = is_between 4 4096 n

-- the names, and 64 more places that aren't named
abbrev pub is_cause : ℕ → Bool
is_cause i = nat_lt i 67

abbrev pub is_mode : ℕ → Bool
is_mode i = nat_lt i 69

abbrev pub string_limit : ℕ
string_limit = 16000

abbrev pub is_name : List ℕ → Bool
is_name cs = nat_le 1 (length cs) && (nat_le (length cs) string_limit && list_all is_printable cs)

abbrev pub is_container : List ℕ → Bool
is_container os = nat_le (length os) string_limit && are_octets os

abbrev pub is_peer : Peer → Bool
is_peer p = is_unit p.up

abbrev pub is_tunnel : Tunnel → Bool
is_tunnel t = is_bearer t.bearer.0 && is_word t.teid

abbrev pub are_tunnels : List Tunnel → Bool
are_tunnels ts = nat_le 1 (length ts) && (nat_le (length ts) 8 && list_all is_tunnel ts)

abbrev pub is_received : Option (List Bool) → Bool
is_received None = true
is_received (Some bs) = nat_le 1 (length bs) && nat_le (length bs) 4096

abbrev pub is_status : SnStatus → Bool
is_status s = is_bearer s.bearer.0 && (is_word s.dl_next && (is_word s.ul_first && is_received s.ul_received))

abbrev pub are_statuses : List SnStatus → Bool
are_statuses ss = nat_le 1 (length ss) && (nat_le (length ss) 8 && list_all is_status ss)

abbrev pub if_there : {A : Type 0} → (A → Bool) → Option A → Bool
if_there test None = true
if_there test (Some x) = test x

-- ---- messages
-- the name of the source is in version 2 alone
abbrev pub IsOrigin : ℕ → Option (List ℕ) → Type 0
IsOrigin version None = Unit {0}
IsOrigin version (Some origin) = (version ≡ 2) × (is_name origin ≡ true)

abbrev pub InRangeF1 : F1Message → Type 0
InRangeF1 (f1s.F1SetupRequest instance name) = (is_word instance ≡ true) × (is_name name ≡ true)
InRangeF1 (f1s.F1SetupResponse instance) = (is_word instance ≡ true)
InRangeF1 (f1s.UeContextSetupRequest ue instance epoch uplinks sn peer) = (is_ue ue ≡ true) × (is_word instance ≡ true) × (is_word epoch ≡ true) × (are_tunnels uplinks ≡ true) × (is_peer peer ≡ true)
InRangeF1 (f1s.UeContextSetupResponse ue instance downlinks) = (is_ue ue ≡ true) × (is_word instance ≡ true) × (are_tunnels downlinks ≡ true)
InRangeF1 (f1s.UeContextModificationRequest ue instance epoch) = (is_ue ue ≡ true) × (is_word instance ≡ true) × (is_word epoch ≡ true)
InRangeF1 (f1s.UeContextModificationResponse ue instance downlinks) = (is_ue ue ≡ true) × (is_word instance ≡ true) × (are_tunnels downlinks ≡ true)
InRangeF1 (f1s.UeContextReleaseCommand ue instance) = (is_ue ue ≡ true) × (is_word instance ≡ true)
InRangeF1 (f1s.UeContextReleaseComplete ue instance) = (is_ue ue ≡ true) × (is_word instance ≡ true)
InRangeF1 (f1s.DlRrcMessageTransfer ue container) = (is_ue ue ≡ true) × (is_container container ≡ true)
InRangeF1 (f1s.UlRrcMessageTransfer ue container) = (is_ue ue ≡ true) × (is_container container ≡ true)

abbrev pub InRangeE1 : E1Message → Type 0
InRangeE1 (e1s.E1SetupRequest instance name) = (is_word instance ≡ true) × (is_name name ≡ true)
InRangeE1 (e1s.E1SetupResponse instance) = (is_word instance ≡ true)
InRangeE1 (e1s.BearerContextSetupRequest ue instance bearers sn quota forward) = (is_ue ue ≡ true) × (is_word instance ≡ true) × (is_bearer bearers ≡ true) × (is_quota quota ≡ true)
InRangeE1 (e1s.BearerContextSetupResponse ue instance uplinks n3 forward_down forward_up) = (is_ue ue ≡ true) × (is_word instance ≡ true) × (are_tunnels uplinks ≡ true) × (are_tunnels n3 ≡ true) × (if_there are_tunnels forward_down ≡ true) × (if_there are_tunnels forward_up ≡ true)
InRangeE1 (e1s.BearerContextSetupFailure ue instance cause) = (is_ue ue ≡ true) × (is_word instance ≡ true) × (is_cause cause ≡ true)
InRangeE1 (e1s.BearerContextModificationRequest ue instance downlinks mode peer forward_down forward_up statuses du) = (is_ue ue ≡ true) × (is_word instance ≡ true) × (if_there are_tunnels downlinks ≡ true) × (is_mode mode ≡ true) × (if_there is_peer peer ≡ true) × (if_there are_tunnels forward_down ≡ true) × (if_there are_tunnels forward_up ≡ true) × (if_there are_statuses statuses ≡ true) × (if_there is_unit du ≡ true)
InRangeE1 (e1s.BearerContextModificationResponse ue instance uplinks statuses) = (is_ue ue ≡ true) × (is_word instance ≡ true) × (if_there are_tunnels uplinks ≡ true) × (if_there are_statuses statuses ≡ true)
InRangeE1 (e1s.BearerContextModificationFailure ue instance cause) = (is_ue ue ≡ true) × (is_word instance ≡ true) × (is_cause cause ≡ true)
InRangeE1 (e1s.BearerContextReleaseCommand ue instance is_final) = (is_ue ue ≡ true) × (is_word instance ≡ true)
InRangeE1 (e1s.BearerContextReleaseComplete ue instance) = (is_ue ue ≡ true) × (is_word instance ≡ true)

abbrev pub InRangeXn : (version : ℕ) → XnMessage → Type 0
InRangeXn version (xns.HandoverRequest ue instance epoch bearers sn quota peer du origin) = (is_ue ue ≡ true) × (is_word instance ≡ true) × (is_word epoch ≡ true) × (is_bearer bearers ≡ true) × (is_quota quota ≡ true) × (is_peer peer ≡ true) × (is_unit du ≡ true) × IsOrigin version origin
InRangeXn version (xns.HandoverRequestAcknowledge ue instance peer forward_down forward_up) = (is_ue ue ≡ true) × (is_word instance ≡ true) × (is_peer peer ≡ true) × (are_tunnels forward_down ≡ true) × (are_tunnels forward_up ≡ true)
InRangeXn version (xns.HandoverPreparationFailure ue instance cause) = (is_ue ue ≡ true) × (is_word instance ≡ true) × (is_cause cause ≡ true)
InRangeXn version (xns.SnStatusTransfer ue instance statuses) = (is_ue ue ≡ true) × (is_word instance ≡ true) × (are_statuses statuses ≡ true)
InRangeXn version (xns.HandoverCancel ue instance) = (is_ue ue ≡ true) × (is_word instance ≡ true)
InRangeXn version (xns.UeContextRelease ue instance) = (is_ue ue ≡ true) × (is_word instance ≡ true)
InRangeXn version (xns.TransportConfirm ue instance) = (is_ue ue ≡ true) × (is_word instance ≡ true)

abbrev pub InRangeCore : CoreMessage → Type 0
InRangeCore (cores.PathSwitchRequest ue instance peer n3) = (is_ue ue ≡ true) × (is_word instance ≡ true) × (is_peer peer ≡ true) × (are_tunnels n3 ≡ true)
InRangeCore (cores.PathSwitchAcknowledge ue instance) = (is_ue ue ≡ true) × (is_word instance ≡ true)
