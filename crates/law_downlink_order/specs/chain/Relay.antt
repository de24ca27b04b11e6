-- A run with packets forwarded through three contexts: the second handover begins before the first hop is done.
use Rattle.std.specs.Prelude.{ℕ, true, false, List, [], ◌∷◌, None}
use Rattle.gnb_types.specs.declared.names.Gnb.TheVariants.{A}
use Rattle.gnb_types.specs.declared.names.NodeId.TheVariants.{CuUp, Du}
use Rattle.gnb_types.specs.declared.plans.SnStatus.{SnStatus}
use Rattle.unit_defs.specs.CuUpRecords.{DownlinkTunnel, SourceHop}
use Rattle.bearer_defs.specs.chain_defs.Models.{fresh, end_marker}
use Rattle.bearer_defs.specs.chain_defs.Orders.{ModelStep, offers, switches_path, makes, freezes, knows, switches, releases, closes, arrives, keeps_n3, keeps_fresh, passes_n3, passes_fresh, sends, ends_n3, ends_hop, numbers, confirms, reports, reports_loss, sends_again, resumes, fails, carries}

-- five packets
abbrev pub a : List ℕ
a = 97 ∷ []

abbrev pub b : List ℕ
b = 98 ∷ []

abbrev pub c : List ℕ
c = 99 ∷ []

abbrev pub d : List ℕ
d = 100 ∷ []

abbrev pub e : List ℕ
e = 101 ∷ []

abbrev pub hop_to : ℕ → ℕ → SourceHop
hop_to up first = record { peer = CuUp A up; down = first; up = first; up_ended = false }

abbrev pub downlink_to : ℕ → DownlinkTunnel
downlink_to teid = record { du = Du A 1; teid = teid; next = 0 }

abbrev pub next_is : ℕ → SnStatus
next_is count = record { bearer = record { 0 = 1 }; dl_next = count; ul_first = 0; ul_received = None }

unfoldable pub relay : List ModelStep
relay =
    makes 2 true 20 ∷ makes 3 true 30
    -- two packets at the first context, one of them received and confirmed
    ∷ offers a ∷ offers b ∷ keeps_n3 1 a (fresh b ∷ []) ∷ numbers 1 a [] ∷ keeps_n3 1 b [] ∷ numbers 1 b []
    ∷ carries 0 a ((1, b) ∷ []) ∷ confirms 1 0
    -- to the second: a packet with its COUNT, and one without, are forwarded
    ∷ freezes 1 2 (hop_to 2 22) ∷ offers c ∷ passes_n3 1 c []
    ∷ knows 2 (next_is 2) ∷ arrives 2 ∷ switches 2 (downlink_to 5) 1 ∷ sends 2 1 b (fresh c ∷ []) ∷ carries 1 b []
    ∷ switches_path 2 ∷ offers d
    -- to the third, while a packet still stands on the way to the second
    ∷ freezes 2 3 (hop_to 3 32) ∷ passes_fresh 2 c []
    ∷ knows 3 (next_is 2) ∷ arrives 3 ∷ switches 3 (downlink_to 6) 2 ∷ switches_path 3 ∷ offers e
    -- the tunnels end one after another
    ∷ ends_n3 1 [] ∷ ends_hop 2 [] ∷ passes_n3 2 d (end_marker ∷ []) ∷ ends_n3 2 []
    ∷ releases 1 ∷ closes 1
    -- the third sends all, in order; the terminal has one of them already
    ∷ sends 3 1 b (fresh c ∷ fresh d ∷ end_marker ∷ []) ∷ keeps_fresh 3 c (fresh d ∷ end_marker ∷ []) ∷ numbers 3 c []
    ∷ keeps_fresh 3 d (end_marker ∷ []) ∷ numbers 3 d [] ∷ ends_hop 3 [] ∷ keeps_n3 3 e [] ∷ numbers 3 e []
    ∷ carries 1 b ((2, c) ∷ (3, d) ∷ (4, e) ∷ []) ∷ carries 2 c ((3, d) ∷ (4, e) ∷ []) ∷ carries 3 d ((4, e) ∷ []) ∷ carries 4 e []
    ∷ []

-- a radio that fails, and a handover that is cancelled: the source goes on, and sends again what it held
unfoldable pub cancelled : List ModelStep
cancelled =
    makes 2 true 20
    ∷ offers a ∷ offers b ∷ keeps_n3 1 a (fresh b ∷ []) ∷ numbers 1 a [] ∷ keeps_n3 1 b [] ∷ numbers 1 b []
    ∷ fails ∷ switches 1 (downlink_to 5) 1 ∷ carries 0 a ((1, b) ∷ []) ∷ reports 1 1 []
    ∷ freezes 1 2 (hop_to 2 22) ∷ offers c ∷ passes_n3 1 c [] ∷ reports_loss 1 ∷ knows 2 (next_is 2)
    ∷ resumes 1 ∷ numbers 1 c [] ∷ sends_again 1 ∷ closes 2
    ∷ carries 1 b ((1, b) ∷ (2, c) ∷ (1, b) ∷ (2, c) ∷ []) ∷ carries 1 b ((2, c) ∷ (1, b) ∷ (2, c) ∷ []) ∷ carries 2 c
    ((1, b) ∷ (2, c) ∷ [])
    ∷ carries 1 b ((2, c) ∷ []) ∷ carries 2 c []
    ∷ []
