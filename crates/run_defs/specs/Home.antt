-- From which states settling ends: the bearers fit, and the terminals are at home.
use Rattle.std.specs.Prelude.{ℕ, ◌≡◌, ◌==◌, ◌-◌, Bool, true, false, not, ◌&&◌, ◌||◌, nat_le, List, [], ◌∷◌, ◌++◌, length, map, Option, Some, None}
use Rattle.std.specs.List.{flat_map, list_all, list_any}
use Rattle.gnb_types.specs.declared.names.Gnb.TheVariants.{A, B}
use Rattle.gnb_types.specs.declared.names.NodeId.{NodeId}
use Rattle.gnb_types.specs.declared.names.NodeId.TheVariants.{CuCp}
use Rattle.gnb_types.specs.declared.names.UeId.{UeId}
use Rattle.gnb_types.specs.declared.names.Dir.{Dir}
use Rattle.gnb_types.specs.declared.names.Dir.TheVariants.{Dl, Ul}
use Rattle.gnb_types.specs.declared.keys.EntityKey.{EntityKey}
use Rattle.gnb_types.specs.declared.plans.Plan.{Plan}
use Rattle.gnb_types.specs.Orders.{ue_cmp, bearer_cmp}
use Rattle.tables.specs.Tables.{find}
use Rattle.transaction_defs.specs.Callers.{is_open}
use Rattle.pdcp_defs.specs.Senders.{window}
use Rattle.unit_defs.specs.declared.AttemptKind.{AttemptKind}
use Rattle.unit_defs.specs.declared.AttemptKind.TheVariants as kinds
use Rattle.unit_defs.specs.Messages.{channel}
use Rattle.unit_defs.specs.Transactions.{waits_at}
use Rattle.unit_defs.specs.CuUpRecords.{CuUpBearer, CuUpContext}
use Rattle.unit_defs.specs.CuUpBearers.{hop_is_done}
use Rattle.unit_defs.specs.Ue.{UeBearer, UeNode}
use Rattle.unit_defs.specs.CuCpRecords.{Attempt, CuCpContext, CuCpRecord, terminal_of}
use Rattle.run_defs.specs.Lines.{ControlMessage}
use Rattle.run_defs.specs.Units.{ue_of}
use Rattle.transport_defs.specs.Links.{Bag, control_message, tunnel_counts, radio_counts, least}
use Rattle.run_defs.specs.States.{State, sn_of, book_of}
use Rattle.run_defs.specs.Settling.{attached_plans, attached_entities}

-- ---- the COUNTs that units keep of a bearer and direction: the sender what is unconfirmed, the receiver what is stored

abbrev pub counts_in : List (ℕ × List ℕ) → List ℕ
counts_in packets = map (λ e. e.0) packets

abbrev pub kept_up : Dir → CuUpBearer → List ℕ
kept_up Dl b = counts_in b.sender.unconfirmed
kept_up Ul b = counts_in b.receiver.stored

abbrev pub kept_up_in : Dir → Option CuUpBearer → List ℕ
kept_up_in dir None = []
kept_up_in dir (Some b) = kept_up dir b

abbrev pub kept_up_of : EntityKey → Option CuUpContext → List ℕ
kept_up_of key None = []
kept_up_of key (Some c) = kept_up_in key.dir (find bearer_cmp c.bearers key.bearer)

abbrev pub kept_ue : Dir → UeBearer → List ℕ
kept_ue Dl b = counts_in b.receiver.stored
kept_ue Ul b = counts_in b.sender.unconfirmed

abbrev pub kept_ue_in : Dir → Option UeBearer → List ℕ
kept_ue_in dir None = []
kept_ue_in dir (Some b) = kept_ue dir b

abbrev pub kept_ue_of : EntityKey → Option UeNode → List ℕ
kept_ue_of key None = []
kept_ue_of key (Some u) = kept_ue_in key.dir (find bearer_cmp u.bearers key.bearer)

abbrev pub kept : {M C L P : Type 0} → State M C L P → EntityKey → List ℕ
kept s key = flat_map (λ e. kept_up_of key (find ue_cmp e.1.contexts key.ue)) s.units.ups ++ kept_ue_of key (ue_of s.units key.ue)

-- ---- Fits: from the least COUNT that is undelivered, stands on a link or is kept, to the end of what was offered, there are fewer than
-- half the space of numbers, and at most as many as the quota. A packet without a number has the COUNT of its place.

unfoldable pub reach : {M C L P : Type 0} → State M C L P → EntityKey → ℕ
reach s key =
    let book = book_of s key in
    book.offered - least (least book.offered (book.delivered ∷ [])) (tunnel_counts key s.tunnels ++ radio_counts key s.radios ++ kept s key)

abbrev pub quota_in : Option Plan → ℕ
quota_in None = 0
quota_in (Some plan) = plan.quota

unfoldable pub fits : {M C L P : Type 0} → State M C L P → EntityKey → Bool
fits s key = nat_le (reach s key) (window (sn_of s key.ue) (quota_in (find ue_cmp s.plans key.ue)))

abbrev pub Fits : {M C L P : Type 0} → State M C L P → EntityKey → Type 0
Fits s key = fits s key ≡ true

-- every bearer and direction of every attached terminal
abbrev pub all_fit : {M C L P : Type 0} → State M C L P → Bool
all_fit s = list_all (fits s) (attached_entities s)

-- ---- At home: no handover between the gNBs is under way for the terminal, and nothing of one is left

-- no attempt between the gNBs, at the source or the target
abbrev pub is_over_xn : AttemptKind → Bool
is_over_xn kinds.BetweenGnbs = true
is_over_xn kinds.Offer = true
is_over_xn kind = false

abbrev pub is_xn_attempt : Option Attempt → Bool
is_xn_attempt None = false
is_xn_attempt (Some a) = is_over_xn a.kind

abbrev pub is_xn_context : Option CuCpContext → Bool
is_xn_context None = false
is_xn_context (Some c) = is_xn_attempt c.attempt

-- no message between the CU-CPs in flight
abbrev pub is_cu_cp : NodeId → Bool
is_cu_cp (CuCp gnb) = true
is_cu_cp node = false

abbrev pub is_xn_control_message : {M : Type 0} → UeId → Option (ControlMessage M) → Bool
is_xn_control_message ue None = false
is_xn_control_message ue (Some l) = l.ue == ue.0 && is_cu_cp l.from && is_cu_cp l.to

abbrev pub flies_over_xn : {M : Type 0} → Bag M → UeId → Bool
flies_over_xn bag ue = list_any (λ number. is_xn_control_message ue (control_message bag number)) bag.flight

-- no request to the other CU-CP that is open or waits
abbrev pub asks_over_xn : {M C : Type 0} → CuCpRecord M C → NodeId → UeId → Bool
asks_over_xn r peer ue =
    is_open r.transactions.caller (channel ue.0 peer) || not (length (waits_at r.transactions (channel ue.0 peer)) == 0)

-- no hop of its bearers that isn't done, and no released context
abbrev pub is_left_over : CuUpContext → Bool
is_left_over c = c.flags.released || not (list_all (λ e. hop_is_done c.flags e.1) c.bearers)

abbrev pub is_left_over_in : Option CuUpContext → Bool
is_left_over_in None = false
is_left_over_in (Some c) = is_left_over c

unfoldable pub is_at_home : {M C L P : Type 0} → State M C L P → UeId → Bool
is_at_home s ue =
    not (is_xn_context (terminal_of s.units.cu_cp_a ue).context || is_xn_context (terminal_of s.units.cu_cp_b ue).context)
    && not (flies_over_xn s.bag ue)
    && not (asks_over_xn s.units.cu_cp_a (CuCp B) ue || asks_over_xn s.units.cu_cp_b (CuCp A) ue)
    && not (list_any (λ e. is_left_over_in (find ue_cmp e.1.contexts ue)) s.units.ups)

abbrev pub AtHome : {M C L P : Type 0} → State M C L P → UeId → Type 0
AtHome s ue = is_at_home s ue ≡ true

-- every attached terminal
abbrev pub all_at_home : {M C L P : Type 0} → State M C L P → Bool
all_at_home s = list_all (λ e. is_at_home s e.0) (attached_plans s)
