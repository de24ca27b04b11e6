-- A run in which frames are lost: a poll shows one loss, a later frame another, and one is shown while the bearer is frozen.
use Rattle.std.specs.Prelude.{ℕ, Bool, true, false, List, [], ◌∷◌, Some, None}
use Rattle.gnb_types.specs.declared.names.Gnb.TheVariants.{A}
use Rattle.gnb_types.specs.declared.names.NodeId.TheVariants.{CuUp, Du}
use Rattle.unit_defs.specs.Ways.{packet_pdu, report_pdu}
use Rattle.unit_defs.specs.CuUpRecords.{DownlinkTunnel, SourceHop}
use Rattle.unit_defs.specs.Du.{DuBearer}
use Rattle.law_downlink_order.specs.path.Paths.{Frame}
use Rattle.law_downlink_order.specs.path.Steps.{Step, numbers, keeps, polls, status, confirms, freezes, resumes, fails, begins_anew, loses, takes, carries}

abbrev pub a : List ℕ
a = 97 ∷ []

abbrev pub b : List ℕ
b = 98 ∷ []

abbrev pub c : List ℕ
c = 99 ∷ []

abbrev pub d : List ℕ
d = 100 ∷ []

abbrev pub downlink_to : ℕ → DownlinkTunnel
downlink_to teid = record { du = Du A 1; teid = teid; next = 0 }

abbrev pub du_bearer : DuBearer
du_bearer = record { up = CuUp A 1; uplink = 2; downlink = 1; awaited = 0; gap = false }

abbrev pub hop : SourceHop
hop = record { peer = CuUp A 2; down = 3; up = 4; up_ended = false }

abbrev pub data_frame : Bool → ℕ → ℕ → List ℕ → Frame
data_frame restart number count packet = record { poll = false; restart = restart; number = number; pdu = Some (packet_pdu count packet) }

abbrev pub poll_frame : ℕ → Frame
poll_frame number = record { poll = true; restart = false; number = number; pdu = None }

abbrev pub report_frame : ℕ → Frame
report_frame number = record { poll = false; restart = false; number = number; pdu = Some (report_pdu 0 []) }

unfoldable pub lossy : List Step
lossy =
    -- of three packets the first is lost; the next frame shows it, and all three are sent again
    numbers a ∷ numbers b ∷ numbers c
    ∷ loses [] (data_frame false 0 0 a) (data_frame false 1 1 b ∷ data_frame false 2 2 c ∷ [])
    ∷ takes (data_frame false 1 1 b) (data_frame false 2 2 c ∷ [])
    ∷ status ((0, 0) ∷ []) None
    ∷ takes (data_frame false 2 2 c) (data_frame true 3 0 a ∷ data_frame false 4 1 b ∷ data_frame false 5 2 c ∷ [])
    ∷ takes (data_frame true 3 0 a) (data_frame false 4 1 b ∷ data_frame false 5 2 c ∷ [])
    ∷ takes (data_frame false 4 1 b) (data_frame false 5 2 c ∷ [])
    ∷ carries 0 a ((1, b) ∷ []) ∷ carries 1 b [] ∷ status [] (Some 0)
    -- the last one is lost: a poll shows it, and what nothing confirmed is sent again
    ∷ loses [] (data_frame false 5 2 c) [] ∷ polls ∷ takes (poll_frame 6) [] ∷ status ((5, 5) ∷ []) None
    ∷ takes (data_frame true 7 1 b) (data_frame false 8 2 c ∷ []) ∷ takes (data_frame false 8 2 c) []
    ∷ carries 1 b ((2, c) ∷ []) ∷ carries 2 c [] ∷ confirms 2 []
    -- a loss while frozen: what came meanwhile is sent after the resume, after what was sent before
    ∷ freezes hop ∷ keeps 3 d ∷ status ((9, 9) ∷ []) None ∷ resumes
    ∷ loses (data_frame true 9 2 c ∷ []) (data_frame false 10 3 d) []
    ∷ takes (data_frame true 9 2 c) []
    -- the radio fails while a packet stands there and on the tunnel: it is gone, and all goes to a new tunnel and a new radio
    ∷ fails ∷ begins_anew (downlink_to 7) 0 []
    ∷ takes (report_frame 0) (data_frame false 1 2 c ∷ data_frame false 2 3 d ∷ [])
    ∷ takes (data_frame false 1 2 c) (data_frame false 2 3 d ∷ []) ∷ takes (data_frame false 2 3 d) []
    ∷ carries 2 c ((3, d) ∷ []) ∷ carries 3 d []
    ∷ []
