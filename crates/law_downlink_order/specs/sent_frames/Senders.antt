-- A CU-UP that sends to a DU, the frames on the tunnel between them, and what waits on the radio behind, beside the chain of contexts.
use Rattle.std.specs.Prelude.{◌≡◌, ℕ, ◌≤◌, List, Some}
use Rattle.bearer_defs.specs.chain_defs.Models.{Model}
use Rattle.unit_defs.specs.CuUpRecords.{DownlinkTunnel, CuUpBearer}
use Rattle.unit_defs.specs.Du.{DuBearer}
use Rattle.law_downlink_order.specs.path.Paths.{Frame}
use Rattle.law_downlink_order.specs.waiting_frames.Frames.{IsLine, from_here}

-- `cursor`: the COUNT up to which all was sent; a packet that follows may be that one, or one before it
pub record IsSender (d : Model) (c : CuUpBearer) (b : DuBearer) (frames : List Frame) (waits : List (ℕ × List ℕ)) (cursor : ℕ) : Type 0 where
  pub downlink : DownlinkTunnel
  pub there : c.downlink ≡ Some downlink
  pub needed : ℕ
  pub line : IsLine d b frames waits downlink.next needed
  pub marked : cursor ≤ from_here c.restart d.terminal.deliv needed
