-- The frames that stand on a DU's downlink tunnel, between the chain of contexts and the radio down: what the DU takes next, if nothing
-- more is lost, leaves no gap after what waits on the radio. Which numbers the frames needn't have: any may be lost.
use Rattle.std.specs.Prelude.{◌≡◌, ℕ, ◌+◌, ◌≤◌, max, Bool, true, false, if◌then◌else◌, List, [], ◌∷◌, Option, Some, None, ⊤}
use Rattle.std.specs.List.{AllByRecursion}
use Rattle.intervals.specs.Intervals.{HasNoGap, reach}
use Rattle.bearer_defs.specs.chain_defs.Models.{Model}
use Rattle.unit_defs.specs.Ways.{Pdu, packet_pdu, report_pdu}
use Rattle.unit_defs.specs.Du.{DuBearer}
use Rattle.law_downlink_order.specs.path.Paths.{Frame}
use Rattle.law_downlink_order.specs.received_packets.Received.{WasPut}

-- packets that come to the end of a radio on which these wait: they were put for the present radio, and leave no gap
pub record Fits (d : Model) (waits more : List (ℕ × List ℕ)) : Type 0 where
  pub put : AllByRecursion (λ (e : ℕ × List ℕ). WasPut d e.0 e.1) more
  pub no_gap : HasNoGap (reach d.terminal.deliv waits) more

-- ---- a frame that is put next: `needed` is the place that must have been reached before a packet without the restart mark

unfoldable pub MayPut : Model → ℕ → Bool → Option Pdu → Type 0
MayPut d needed restart None = restart ≡ false
MayPut d needed restart (Some (report_pdu fmc bits)) = restart ≡ false
MayPut d needed true (Some (packet_pdu count packet)) = (count ≤ d.terminal.deliv) × WasPut d count packet
MayPut d needed false (Some (packet_pdu count packet)) = (count ≤ max d.terminal.deliv needed) × WasPut d count packet

unfoldable pub needed_after : ℕ → Bool → Option Pdu → ℕ
needed_after needed restart None = needed
needed_after needed restart (Some (report_pdu fmc bits)) = needed
needed_after needed true (Some (packet_pdu count packet)) = count + 1
needed_after needed false (Some (packet_pdu count packet)) = max needed (count + 1)

-- frames with numbers from `next` on
unfoldable pub MayPutAll : Model → ℕ → ℕ → List Frame → Type 0
MayPutAll d needed next [] = ⊤
MayPutAll d needed next (f ∷ fs) =
    (f.number ≡ next) × MayPut d needed f.restart f.pdu × MayPutAll d (needed_after needed f.restart f.pdu) (next + 1) fs

unfoldable pub needed_by : ℕ → List Frame → ℕ
needed_by needed [] = needed
needed_by needed (f ∷ fs) = needed_by (needed_after needed f.restart f.pdu) fs

-- ---- frames that stand there, with numbers that rise, below the one that comes next: of each number what must have been reached
-- before it, where no gap is open, and what has been after it

module _ (d : Model) (need : ℕ → ℕ) where
  unfoldable pub Stand : ℕ → List Frame → ℕ → Type 0
  Stand low [] next = low ≤ next
  Stand low (f ∷ fs) next =
      (low ≤ f.number) × MayPut d (need f.number) f.restart f.pdu
      × (need (f.number + 1) ≤ max d.terminal.deliv (needed_after (need f.number) f.restart f.pdu)) × Stand (f.number + 1) fs next

-- the frames on the tunnel of this DU, before a frame with the number `next`
pub record IsLine (d : Model) (b : DuBearer) (frames : List Frame) (waits : List (ℕ × List ℕ)) (next needed : ℕ) : Type 0 where
  pub need : ℕ → ℕ
  pub last : needed ≤ max d.terminal.deliv (need next)
  pub stand : Stand d need b.awaited frames next
  pub reached : b.gap ≡ false → need b.awaited ≤ reach d.terminal.deliv waits

-- what a list of packets must follow on: all that was received, or what was sent before, where no restart is assumed
abbrev pub from_here : Bool → ℕ → ℕ → ℕ
from_here is_assumed deliv needed = if is_assumed then deliv else max deliv needed
