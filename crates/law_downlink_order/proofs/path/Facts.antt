-- What holds of the way down in every run. Which packets the CU-UP comes to hold is a function p. The number need n, which the run
-- doesn't have, is the place that must have been reached where frame n comes next and no gap is open.
use Rattle.std.specs.Prelude.{◌≡◌, ℕ, ◌+◌, ◌≤◌, ◌<◌, max, Bool, true, false, List, [], ◌∷◌, Option, Some, None}
use Rattle.std.specs.List.{AllByRecursion}
use Rattle.intervals.specs.Intervals.{upto, HasNoGap, reach}
use Rattle.unit_defs.specs.Ways.{Pdu, packet_pdu, report_pdu}
use Rattle.unit_defs.specs.CuUpRecords.{DownlinkTunnel, CuUpBearer}
use Rattle.law_downlink_order.proofs.chain.Facts.{pairs}
use Rattle.law_downlink_order.specs.path.Paths.{Frame, Path}

-- what a frame is compared with: what was received, and the COUNT of the packet that comes next
pub record View : Type 0 where
  pub deliv : ℕ
  pub comes : ℕ
  -- whether the terminal listens; of the DU; and the place that was reached at the end of the radio
  pub listens : Bool
  pub awaited : ℕ
  pub gap : Bool
  pub reached : ℕ

abbrev pub view : Path → View
view s = record {
  deliv = s.terminal.deliv;
  comes = s.comes;
  listens = s.listens;
  awaited = s.du.awaited;
  gap = s.du.gap;
  reached = reach s.terminal.deliv s.air;
}

module _ (p : ℕ → List ℕ) (need : ℕ → ℕ) (deliv comes : ℕ) where
  unfoldable pub FitsPacket : ℕ → Bool → ℕ → List ℕ → Type 0
  FitsPacket n true count packet = (count ≤ deliv) × (need (n + 1) ≤ max deliv (count + 1)) × (count < comes) × (packet ≡ p count)
  FitsPacket n false count packet =
      (count ≤ max deliv (need n)) × (need (n + 1) ≤ max deliv (max (need n) (count + 1))) × (count < comes) × (packet ≡ p count)

  unfoldable pub Quiet : ℕ → Bool → Type 0
  Quiet n restart = (restart ≡ false) × (need (n + 1) ≤ max deliv (need n))

  unfoldable pub Fits : ℕ → Bool → Option Pdu → Type 0
  Fits n restart None = Quiet n restart
  Fits n restart (Some (report_pdu fmc bits)) = Quiet n restart
  Fits n restart (Some (packet_pdu count packet)) = FitsPacket n restart count packet

  -- frames whose numbers rise, from low on and below next
  unfoldable pub Stands : ℕ → List Frame → ℕ → Type 0
  Stands low [] next = low ≤ next
  Stands low (f ∷ fs) next = (low ≤ f.number) × Fits f.number f.restart f.pdu × Stands (f.number + 1) fs next

pub record Line (p : ℕ → List ℕ) (v : View) (need : ℕ → ℕ) (next : ℕ) (tunnel : List Frame) : Type 0 where
  pub stands : Stands p need v.deliv v.comes v.awaited tunnel next
  pub taken : v.listens ≡ true → v.gap ≡ false → need v.awaited ≤ v.reached

-- the next packet that is put, with or without the restart mark
unfoldable pub Marked : Bool → ℕ → ℕ → ℕ → Type 0
Marked true cursor deliv needed = cursor ≤ deliv
Marked false cursor deliv needed = cursor ≤ max deliv needed

pub record Speaks (p : ℕ → List ℕ) (v : View) (tunnel : List Frame) (b : CuUpBearer) (cursor : ℕ) : Type 0 where
  pub need : ℕ → ℕ
  pub downlink : DownlinkTunnel
  pub there : b.downlink ≡ Some downlink
  pub line : Line p v need (downlink.next) tunnel
  pub marked : b.loss_while_frozen ≡ false → Marked b.restart cursor v.deliv (need (downlink.next))

-- unconfirmed from low on; of it all below sent was put
pub record Holds (p : ℕ → List ℕ) (is_frozen : Bool) (b : CuUpBearer) (deliv comes low sent : ℕ) : Type 0 where
  pub unconfirmed_are : b.sender.unconfirmed ≡ upto (pairs p) low comes
  pub low_comes : low ≤ comes
  pub low_deliv : low ≤ deliv
  pub sent_comes : sent ≤ comes
  pub all_sent : is_frozen ≡ false → (sent ≡ comes) × (b.loss_while_frozen ≡ false)
  pub taken_are : is_frozen ≡ true → b.taken_while_frozen ≡ upto (λ i. i) sent comes

pub record Radio (p : ℕ → List ℕ) (limit deliv : ℕ) (stored air delivered : List (ℕ × List ℕ)) : Type 0 where
  pub no_gap : HasNoGap deliv air
  pub packets : AllByRecursion (λ (e : ℕ × List ℕ). e.1 ≡ p e.0) air
  pub reached_limit : reach deliv air ≤ limit
  pub delivered_are : delivered ≡ upto (pairs p) 0 deliv
  pub none_stored : stored ≡ []

-- base: what the terminal had received when the way began
pub record Kept (p : ℕ → List ℕ) (base : ℕ) (s : Path) : Type 0 where
  pub low : ℕ
  pub sent : ℕ
  pub holds : Holds p s.frozen s.bearer s.terminal.deliv s.comes low sent
  pub speaks : Speaks p (view s) s.tunnel s.bearer sent
  pub radio : Radio p (max base s.comes) s.terminal.deliv s.terminal.stored s.air s.delivered
