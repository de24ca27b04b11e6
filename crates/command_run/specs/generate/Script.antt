-- The script that the word `generate` makes: one terminal with one bearer gets N packets in the downlink, each is delivered and its
-- delivery is reported; after every hundredth packet the terminal loses its radio and comes back.
use Rattle.std.specs.Prelude.{◌==◌, ℕ, zero, suc, ◌+◌, ◌/◌, ◌%◌, List, [], ◌∷◌, ◌++◌, if◌then◌else◌}
use Rattle.std.specs.Int.{w32, to_be_bytes}
use Rattle.gnb_types.specs.declared.names.UeId.{UeId}
use Rattle.gnb_types.specs.declared.names.BearerId.{BearerId}
use Rattle.gnb_types.specs.declared.names.NodeId.{NodeId}
use Rattle.gnb_types.specs.declared.names.NodeId.TheVariants.{CuUp, Du}
use Rattle.gnb_types.specs.declared.names.Gnb.TheVariants.{A}
use Rattle.gnb_types.specs.declared.names.SnBits.TheVariants.{Len12}
use Rattle.gnb_types.specs.declared.names.Dir.TheVariants.{Dl, Ul}
use Rattle.gnb_types.specs.declared.plans.Plan.{Plan}
use Rattle.scenario_text.specs.declared.event.Event.{Event}
use Rattle.scenario_text.specs.declared.event.Event.TheVariants.{Static, Offer, Get, Air, Ack, Fail, Return, Pump, Ask}

abbrev pub u1 : UeId
u1 = record { 0 = 1 }

abbrev pub b1 : BearerId
b1 = record { 0 = 1 }

abbrev pub cu_up : NodeId
cu_up = CuUp A 1

abbrev pub du : NodeId
du = Du A 1

-- `static u1 A 1 1 12 1 64`
abbrev pub plan : Plan
plan = record { ue = u1; gnb = A; up = 1; du = 1; sn = Len12; bearers = 1; quota = 64 }

-- The DU's newest downlink tunnel, after so many returns: each return opens one.
abbrev pub downlink_teid : ℕ → ℕ
downlink_teid returns = returns + 1

-- Packet number i, four octets, highest first: `offer u1 b1 dl`, `get A.up1/1`, `get A.du1/T`, `air u1 b1 dl`, `ack u1 b1 dl` and
-- `get A.up1/2`.
abbrev pub packet_events : ℕ → ℕ → List Event
packet_events packet returns =
    Offer u1 b1 Dl (to_be_bytes w32 packet)
    ∷ Get cu_up 1
    ∷ Get du (downlink_teid returns)
    ∷ Air u1 b1 Dl
    ∷ Ack u1 b1 Dl
    ∷ Get cu_up 2
    ∷ []

-- The terminal loses its radio and comes back, and both ends of the bearer tell each other what they have: `fail u1`, `return u1`,
-- `pump`, `get A.du1/T`, `air u1 b1 dl`, `ack u1 b1 dl`, `air u1 b1 ul`, `ack u1 b1 ul` and `get A.up1/2`.
abbrev pub return_events : ℕ → List Event
return_events returns =
    Fail u1
    ∷ Return u1
    ∷ Pump
    ∷ Get du (downlink_teid returns)
    ∷ Air u1 b1 Dl
    ∷ Ack u1 b1 Dl
    ∷ Air u1 b1 Ul
    ∷ Ack u1 b1 Ul
    ∷ Get cu_up 2
    ∷ []

-- a packet has its turn; after every hundredth the terminal comes back
abbrev pub turn_events : ℕ → List Event
turn_events packet =
    packet_events packet (packet / 100) ++ (if (packet + 1) % 100 == 0 then return_events (packet / 100 + 1) else [])

-- the turns of so many packets, from this number on, and `ask u1 b1`
unfoldable pub turns_from : ℕ → ℕ → List Event
turns_from first zero = Ask u1 b1 ∷ []
turns_from first (suc more) = turn_events first ++ turns_from (first + 1) more

-- the script of N packets
abbrev pub script : ℕ → List Event
script packets = Static plan ∷ turns_from 0 packets
