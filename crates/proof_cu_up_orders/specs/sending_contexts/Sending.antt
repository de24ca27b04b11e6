-- A context of the chain that sends to a DU, where its downlink was switched for the present radio: what stands between it and that radio,
-- and what it sent of what it holds.
use Rattle.std.specs.Prelude.{◌≡◌, ℕ, ◌≤◌, true, false, List, ◌++◌}
use Rattle.intervals.specs.Intervals.{HasNoGap, reach}
use Rattle.bearer_defs.specs.chain_defs.Models.{Model}
use Rattle.unit_defs.specs.Du.{DuBearer}
use Rattle.unit_defs.specs.CuUpBearers.{owed}
use Rattle.unit_defs.specs.CuUpRecords.{CuUpBearer}
use Rattle.law_downlink_order.specs.path.Paths.{Frame}
use Rattle.law_downlink_order.specs.sent_frames.Senders.{IsSender}

-- the frames on its tunnel, the bearer of the DU that takes them, and what waits on the radio after it
pub record Tunnel : Type 0 where
  pub du : DuBearer
  pub frames : List Frame
  pub waits : List (ℕ × List ℕ)

abbrev pub with_frames : Tunnel → List Frame → Tunnel
with_frames w more = record w { frames = w.frames ++ more }

-- `cursor`: up to where all was sent. While the context serves this is all that it holds; while frozen it is so with what it owes, which is
-- sent at a resume. Of a released context, which holds nothing, nothing more is said.
pub record IsSending (d : Model) (x : ℕ) (c : CuUpBearer) (w : Tunnel) : Type 0 where
  pub cursor : ℕ
  pub sender : IsSender d c w.du w.frames w.waits cursor
  pub epoch : (d.members x).epoch ≡ d.epoch
  pub received : d.terminal.deliv ≤ cursor
  pub served : (d.members x).flags.frozen ≡ false → reach d.terminal.deliv (d.members x).bearer.sender.unconfirmed ≤ cursor
  pub frozen : (d.members x).flags.frozen ≡ true → (d.members x).flags.released ≡ false
      → HasNoGap cursor (owed (d.members x).bearer)
      × (reach d.terminal.deliv (d.members x).bearer.sender.unconfirmed ≤ reach cursor (owed (d.members x).bearer))
