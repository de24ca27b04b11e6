-- What happens on the way, in small orders, and what each asks for. `IsReady` is what the units test themselves, and what stands
-- where they take from; `IsAssumed` is what is assumed of the rest of the station.
use Rattle.std.specs.Prelude.{◌≡◌, ℕ, ◌+◌, ◌<◌, ◌≤◌, Bool, true, false, not, ◌||◌, if◌then◌else◌, List, [], ◌∷◌, ◌++◌, Option, Some, None, ⊤}
use Rattle.pdcp_defs.specs.Senders.{numbered as with_next, confirmed_to, confirmed_by}
use Rattle.pdcp_defs.specs.Receivers.{Delivery, is_duplicate, stored, deliver}
use Rattle.unit_defs.specs.Ways.{report_pdu}
use Rattle.unit_defs.specs.CuUpRecords.{DownlinkTunnel, SourceHop, CuUpBearer}
use Rattle.unit_defs.specs.CuUpBearers.{owed, thawed}
use Rattle.bearer_defs.specs.chain_defs.Orders.{holds, takes_unless, frozen}
use Rattle.law_downlink_order.specs.path.Paths.{Frame, Path, Sending, frame_on, packets_sent, taken_by, gap_after, carried_by}

pub data Step : Type 0 where
  -- a packet gets its COUNT and is sent; one that another CU-UP numbered is sent; or it is kept while frozen
  numbers : (packet : List ℕ) → Step
  sends : (count : ℕ) (packet : List ℕ) → Step
  keeps : (count : ℕ) (packet : List ℕ) → Step
  -- frames that carry no packet: a poll, a status report
  polls : Step
  reports : (fmc : ℕ) (bits : List Bool) → Step
  -- a delivery status: ranges of lost frames, and a COUNT up to which all is confirmed; a status report of the terminal
  status : (lost : List (ℕ × ℕ)) (delivered : Option ℕ) → Step
  confirms : (fmc : ℕ) (bits : List Bool) → Step
  -- control
  freezes : (hop : SourceHop) → Step
  resumes : Step
  -- the radio fails, and what stands there is gone; a new tunnel to a new radio: what stood on the old one is gone, and all
  -- that nothing confirmed is sent again
  fails : Step
  begins_anew : (downlink : DownlinkTunnel) (fmc : ℕ) (bits : List Bool) → Step
  -- a frame is lost; the DU takes the first frame; the terminal takes the next packet of its radio
  loses : (before : List Frame) (frame : Frame) (rest : List Frame) → Step
  takes : (frame : Frame) (rest : List Frame) → Step
  carries : (count : ℕ) (packet : List ℕ) (rest : List (ℕ × List ℕ)) → Step

-- ---- what each does

abbrev pub put : Path → Sending → Path
put s sent = record s { bearer = sent.bearer; tunnel = s.tunnel ++ sent.frames }

abbrev pub confirmed_if : Option ℕ → CuUpBearer → CuUpBearer
confirmed_if None b = b
confirmed_if (Some count) b = record b { sender = confirmed_to b.sender count }

-- all that nothing confirmed is sent again, the first with the restart mark; a frozen context does so when it is resumed
abbrev pub sent_again : Bool → List (ℕ × ℕ) → CuUpBearer → Sending
sent_again is_frozen [] b = record { frames = []; bearer = b }
sent_again true (range ∷ ranges) b = record { frames = []; bearer = record b { restart = true; loss_while_frozen = true } }
sent_again false (range ∷ ranges) b = packets_sent b.sender.unconfirmed (record b { restart = true })

abbrev pub anew : CuUpBearer → DownlinkTunnel → CuUpBearer
anew b d = record (thawed b) { downlink = Some (record d { next = 0 }); restart = false }

-- a status report, and all that nothing confirmed
abbrev pub sent_anew : ℕ → List Bool → CuUpBearer → Sending
sent_anew fmc bits b =
    let report = frame_on false false (Some (report_pdu fmc bits)) b b.downlink in
    let all = packets_sent report.bearer.sender.unconfirmed report.bearer in
    record { frames = report.frames ++ all.frames; bearer = all.bearer }

abbrev pub handed : Path → Bool → Delivery (List ℕ) → Path
handed s is_known d = if is_known then s else record s { terminal = d.after; delivered = s.delivered ++ d.packets }

unfoldable pub after : Path → Step → Path
after s (numbers packet) =
    let b : CuUpBearer = record s.bearer { sender = with_next s.bearer.sender packet } in
    record (put s (packets_sent ((s.bearer.sender.next, packet) ∷ []) b)) { comes = s.comes + 1 }
after s (sends count packet) =
    record (put s (packets_sent ((count, packet) ∷ []) (holds s.bearer count packet))) { comes = s.comes + 1 }
after s (keeps count packet) = record s { bearer = takes_unless false s.bearer count packet; comes = s.comes + 1 }
after s polls = put s (frame_on true false None s.bearer s.bearer.downlink)
after s (reports fmc bits) = put s (frame_on false false (Some (report_pdu fmc bits)) s.bearer s.bearer.downlink)
after s (status lost delivered) = put s (sent_again s.frozen lost (confirmed_if delivered s.bearer))
after s (confirms fmc bits) = record s { bearer = record s.bearer { sender = confirmed_by s.bearer.sender fmc bits } }
after s (freezes hop) = record s { frozen = true; bearer = frozen s.bearer hop }
after s resumes =
    record (put s (packets_sent (owed s.bearer) (record (thawed s.bearer) { restart = s.bearer.restart || s.bearer.loss_while_frozen })))
    { frozen = false }
after s fails = record s { listens = false; air = [] }
after s (begins_anew downlink fmc bits) =
    let sent = sent_anew fmc bits (anew s.bearer downlink) in
    record s {
      frozen = false;
      bearer = sent.bearer;
      tunnel = sent.frames;
      du = record s.du { downlink = downlink.teid; awaited = 0; gap = false };
      listens = true;
      air = [];
    }
after s (loses before frame rest) = record s { tunnel = before ++ rest }
after s (takes frame rest) =
    record s {
      tunnel = rest;
      du = taken_by s.du frame;
      air = s.air ++ carried_by (not s.listens || gap_after s.du frame frame.pdu) frame.pdu;
    }
after s (carries count packet rest) =
    handed (record s { air = rest }) (is_duplicate s.terminal count) (deliver (stored s.terminal count packet))

unfoldable pub run : Path → List Step → Path
run s [] = s
run s (o ∷ os) = run (after s o) os

-- the packets that the CU-UP comes to hold, in their order
unfoldable pub packets_in : List Step → List (List ℕ)
packets_in [] = []
packets_in (numbers packet ∷ os) = packet ∷ packets_in os
packets_in (sends count packet ∷ os) = packet ∷ packets_in os
packets_in (keeps count packet ∷ os) = packet ∷ packets_in os
packets_in (o ∷ os) = packets_in os

-- ---- and asks for

unfoldable pub IsReady : Path → Step → Type 0
IsReady s (numbers packet) = s.frozen ≡ false
IsReady s (sends count packet) = s.frozen ≡ false
IsReady s (keeps count packet) = s.frozen ≡ true
IsReady s polls = ⊤
IsReady s (reports fmc bits) = ⊤
IsReady s (status lost delivered) = ⊤
IsReady s (confirms fmc bits) = ⊤
IsReady s (freezes hop) = s.frozen ≡ false
IsReady s resumes = s.frozen ≡ true
IsReady s fails = ⊤
IsReady s (begins_anew downlink fmc bits) = ⊤
IsReady s (loses before frame rest) = s.tunnel ≡ before ++ frame ∷ rest
IsReady s (takes frame rest) = s.tunnel ≡ frame ∷ rest
IsReady s (carries count packet rest) = s.air ≡ (count, packet) ∷ rest

abbrev pub is_received : Option ℕ → ℕ → Type 0
is_received None deliv = ⊤
is_received (Some count) deliv = count < deliv

unfoldable pub IsAssumed : Path → Step → Type 0
-- packets come in the order of their COUNTs
IsAssumed s (numbers packet) = s.bearer.sender.next ≡ s.comes
IsAssumed s (sends count packet) = count ≡ s.comes
IsAssumed s (keeps count packet) = count ≡ s.comes
-- what is confirmed was received
IsAssumed s (status lost delivered) = is_received delivered s.terminal.deliv
IsAssumed s (confirms fmc bits) = (fmc ≤ s.terminal.deliv) × (bits ≡ [])
IsAssumed s o = ⊤

unfoldable pub AreKept : Path → List Step → Type 0
AreKept s [] = ⊤
AreKept s (o ∷ os) = IsReady s o × IsAssumed s o × AreKept (after s o) os
