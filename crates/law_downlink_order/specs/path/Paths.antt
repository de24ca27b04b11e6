-- The way of one bearer's packets down from a CU-UP to the terminal: frames on the F1-U tunnel, any of which may be lost, the DU,
-- its radio, and the terminal (TS 38.425, 5.4; TS 38.323, 5.2).
use Rattle.std.specs.Prelude.{ℕ, ◌+◌, Bool, true, false, not, ◌&&◌, ◌||◌, nat_lt, List, [], ◌∷◌, ◌++◌, Option, Some, None}
use Rattle.pdcp_defs.specs.Receivers.{Receiver, new_receiver}
use Rattle.unit_defs.specs.Ways.{Pdu, packet_pdu, report_pdu}
use Rattle.unit_defs.specs.CuUpRecords.{DownlinkTunnel, CuUpBearer}
use Rattle.unit_defs.specs.CuUpBearers.{made}
use Rattle.unit_defs.specs.Du.{DuBearer}

-- an NR-U data frame; one that polls carries nothing
pub record Frame : Type 0 where
  pub poll : Bool
  pub restart : Bool
  pub number : ℕ
  pub pdu : Option Pdu

-- The bearer at the CU-UP and at the DU are the model's records. What waits for a COUNT says nothing here.
pub record Path : Type 0 where
  pub frozen : Bool
  pub bearer : CuUpBearer
  pub tunnel : List Frame
  pub du : DuBearer
  -- whether the terminal is on the radio to which the DU sends; the packets there (status reports say nothing here)
  pub listens : Bool
  pub air : List (ℕ × List ℕ)
  pub terminal : Receiver (List ℕ)
  pub delivered : List (ℕ × List ℕ)
  -- the COUNT of the packet that the CU-UP holds next: of those that a source forwards, or of its own
  pub comes : ℕ

-- ---- the CU-UP puts frames

pub record Sending : Type 0 where
  pub frames : List Frame
  pub bearer : CuUpBearer

-- a frame with the next number, where there is a tunnel; one with the restart mark uses the mark up
abbrev pub frame_on : Bool → Bool → Option Pdu → CuUpBearer → Option DownlinkTunnel → Sending
frame_on poll restart pdu b None = record { frames = []; bearer = b }
frame_on poll restart pdu b (Some d) = record {
  frames = record { poll = poll; restart = restart; number = d.next; pdu = pdu } ∷ [];
  bearer = record b { downlink = Some (record d { next = d.next + 1 }); restart = b.restart && not restart };
}

-- packets in their order, the first with the restart mark where one is assumed
unfoldable pub packets_sent : List (ℕ × List ℕ) → CuUpBearer → Sending
packets_sent [] b = record { frames = []; bearer = b }
packets_sent (e ∷ es) b =
    let one = frame_on false b.restart (Some (packet_pdu e.0 e.1)) b b.downlink in
    let more = packets_sent es one.bearer in
    record { frames = one.frames ++ more.frames; bearer = more.bearer }

-- ---- the DU takes a frame: a number above the awaited one shows a gap, which lasts until a payload with the restart mark

abbrev pub shows_gap : DuBearer → ℕ → Bool
shows_gap b number = b.gap || nat_lt b.awaited number

abbrev pub gap_after : DuBearer → Frame → Option Pdu → Bool
gap_after b f None = shows_gap b f.number
gap_after b f (Some pdu) = shows_gap b f.number && not f.restart

abbrev pub taken_by : DuBearer → Frame → DuBearer
taken_by b f = record b { awaited = f.number + 1; gap = gap_after b f f.pdu }

-- the packet that a frame carries, as a list
abbrev pub packet_of : Option Pdu → List (ℕ × List ℕ)
packet_of None = []
packet_of (Some (packet_pdu count packet)) = (count, packet) ∷ []
packet_of (Some (report_pdu fmc bits)) = []

abbrev pub carried_by : Bool → Option Pdu → List (ℕ × List ℕ)
carried_by true pdu = []
carried_by false pdu = packet_of pdu

-- ---- the start: a context with a downlink, and its DU

unfoldable pub start : ℕ → DownlinkTunnel → DuBearer → Path
start first downlink du = record {
  frozen = false;
  bearer = record (made false first) { downlink = Some (record downlink { next = 0 }) };
  tunnel = [];
  du = record du { awaited = 0; gap = false };
  listens = true;
  air = [];
  terminal = new_receiver 0;
  delivered = [];
  comes = 0;
}
