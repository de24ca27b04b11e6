-- Words on messages: the values of their enumerations, the lists of bearers in them, and the channel on which they come.
use Rattle.std.specs.Prelude.{◌==◌, ℕ, ◌+◌, Bool, true, false, not, ◌&&◌, if◌then◌else◌, List, [], ◌∷◌, map, Option, Some, None}
use Rattle.gnb_types.specs.declared.names.Gnb.{Gnb}
use Rattle.gnb_types.specs.declared.names.Gnb.TheVariants.{A, B}
use Rattle.gnb_types.specs.declared.names.NodeId.{NodeId}
use Rattle.gnb_types.specs.declared.names.NodeId.TheVariants.{CuCp, CuUp, Du, Core, Ue}
use Rattle.gnb_types.specs.declared.names.BearerId.{BearerId}
use Rattle.gnb_types.specs.declared.keys.Channel.{Channel}
use Rattle.gnb_types.specs.declared.plans.Tunnel.{Tunnel}
use Rattle.gnb_types.specs.declared.plans.SnStatus.{SnStatus}
use Rattle.gnb_types.specs.declared.reasons.CauseName.{CauseName}
use Rattle.gnb_types.specs.declared.reasons.CauseName.TheVariants.{Quota, Busy, Unit as NoUnit}

-- Cause ::= ENUMERATED {quota, busy, unit, ...}
abbrev pub cause_quota : ℕ
cause_quota = 0

abbrev pub cause_busy : ℕ
cause_busy = 1

abbrev pub cause_unit : ℕ
cause_unit = 2

abbrev pub cause_name : ℕ → Option CauseName
cause_name cause =
    if cause == cause_quota then Some Quota else (if cause == cause_busy then Some Busy else (if cause == cause_unit then Some NoUnit else None))

-- Mode ::= ENUMERATED {uplinks, switch, freeze, status, resume, ...}
abbrev pub mode_uplinks : ℕ
mode_uplinks = 0

abbrev pub mode_switch : ℕ
mode_switch = 1

abbrev pub mode_freeze : ℕ
mode_freeze = 2

abbrev pub mode_status : ℕ
mode_status = 3

abbrev pub mode_resume : ℕ
mode_resume = 4

abbrev pub channel : ℕ → NodeId → Channel
channel ue peer = record { ue = ue; peer = peer }

abbrev pub is_same_gnb : Gnb → Gnb → Bool
is_same_gnb A A = true
is_same_gnb B B = true
is_same_gnb A B = false
is_same_gnb B A = false

abbrev pub other_gnb : Gnb → Gnb
other_gnb A = B
other_gnb B = A

-- Two nodes share an interface (TS 38.401, 6.1.2): a CU-CP with its units, with the other CU-CP and with the core; a DU with a
-- terminal.
abbrev pub shares_interface : NodeId → NodeId → Bool
shares_interface (CuCp g) (CuCp h) = not (is_same_gnb g h)
shares_interface (CuCp g) (CuUp h n) = is_same_gnb g h
shares_interface (CuCp g) (Du h n) = is_same_gnb g h
shares_interface (CuCp g) Core = true
shares_interface (CuUp h n) (CuCp g) = is_same_gnb g h
shares_interface (Du h n) (CuCp g) = is_same_gnb g h
shares_interface Core (CuCp g) = true
shares_interface (Du g n) (Ue ue) = true
shares_interface (Ue ue) (Du g n) = true
shares_interface from to = false

-- the bearers that a list names
abbrev pub bearers_of : List Tunnel → List BearerId
bearers_of tunnels = map (λ t. t.bearer) tunnels

abbrev pub statuses_of : List SnStatus → List BearerId
statuses_of statuses = map (λ s. s.bearer) statuses

-- these are named, ascending, each once
abbrev pub are_bearers : List BearerId → List BearerId → Bool
are_bearers [] [] = true
are_bearers [] (b ∷ bs) = false
are_bearers (a ∷ as') [] = false
are_bearers (a ∷ as') (b ∷ bs) = a.0 == b.0 && are_bearers as' bs

-- these are 1, 2, 3 and so on
abbrev pub are_from : ℕ → List BearerId → Bool
are_from i [] = true
are_from i (b ∷ bs) = b.0 == i && are_from (i + 1) bs

abbrev pub are_first_bearers : List BearerId → Bool
are_first_bearers bs = are_from 1 bs

-- the TEID of a bearer in a list, and a bearer's tunnel, if it has one
abbrev pub teid_of : List Tunnel → BearerId → ℕ
teid_of [] bearer = 0
teid_of (t ∷ ts) bearer = if t.bearer.0 == bearer.0 then t.teid else teid_of ts bearer

abbrev pub tunnel_of : BearerId → Option ℕ → List Tunnel
tunnel_of bearer None = []
tunnel_of bearer (Some teid) = record { bearer = bearer; teid = teid } ∷ []
