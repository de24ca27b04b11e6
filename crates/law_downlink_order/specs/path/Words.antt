-- What the laws say of the way down, after some steps by which the CU-UP came to hold these packets.
use Rattle.std.specs.Prelude.{◌≡◌, ℕ, ◌+◌, ◌<◌, ◌≤◌, true, false, List, [], ◌∷◌, ◌++◌, length, take, ⊤}
use Rattle.std.specs.List.{AllByRecursion, enumerate_from}
use Rattle.intervals.specs.Intervals.{HasNoGap}
use Rattle.pdcp_defs.specs.Receivers.{is_ahead}
use Rattle.law_downlink_order.specs.path.Paths.{Frame, Path, packet_of}

-- each packet once, with COUNTs 0, 1, 2 and so on
unfoldable pub DeliversInOrder : List (List ℕ) → Path → Type 0
DeliversInOrder packets s = s.delivered ≡ enumerate_from 0 (take (length s.delivered) packets)

-- the terminal stores no packet, and finds none for which it has no room
unfoldable pub TakesAtOnce : Path → Type 0
TakesAtOnce s =
    (s.terminal.stored ≡ [])
    × ((count quota : ℕ) (packet : List ℕ) (rest : List (ℕ × List ℕ)) → s.air ≡ (count, packet) ∷ rest → 0 < quota
    → is_ahead quota s.terminal count ≡ false)

-- frames that nothing is missing between, from this number on
unfoldable pub Follow : ℕ → List Frame → Type 0
Follow number [] = ⊤
Follow number (f ∷ fs) = (f.number ≡ number) × Follow (number + 1) fs

unfoldable pub packets_of : List Frame → List (ℕ × List ℕ)
packets_of [] = []
packets_of (f ∷ fs) = packet_of f.pdu ++ packets_of fs

-- from a restart on, frames that nothing is missing between have no gap of COUNTs, and fit to what was received
unfoldable pub RunsHaveNoGap : Path → Type 0
RunsHaveNoGap s =
    (before : List Frame) (first : Frame) (run rest : List Frame) → s.tunnel ≡ before ++ first ∷ run ++ rest → first.restart ≡ true
    → Follow first.number (first ∷ run) → HasNoGap s.terminal.deliv (packets_of (first ∷ run))

-- what stands on the radio, and what the DU takes next if nothing more is lost, has no gap from what was received
unfoldable pub DownlinkPathHasNoGap : Path → Type 0
DownlinkPathHasNoGap s =
    HasNoGap s.terminal.deliv s.air
    × ((run rest : List Frame) → s.tunnel ≡ run ++ rest → s.listens ≡ true → s.du.gap ≡ false → Follow s.du.awaited run
    → HasNoGap s.terminal.deliv (s.air ++ packets_of run))

-- a frame with the restart mark has a packet that was received, or that is the next to be
unfoldable pub RestartsAtReceived : Path → Type 0
RestartsAtReceived s =
    AllByRecursion (λ (f : Frame). f.restart ≡ true → (count : ℕ) (packet : List ℕ) → packet_of f.pdu ≡ (count, packet) ∷ []
    → count ≤ s.terminal.deliv) s.tunnel
