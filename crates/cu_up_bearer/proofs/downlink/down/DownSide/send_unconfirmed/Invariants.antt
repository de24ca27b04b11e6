use Rattle.std.proofs.Common.{◌≡◌, length}
use Rattle.unit_defs.specs.CuUpRecords.{CuUpBearer}
use Rattle.unit_defs.specs.octet_defs.Codec.{Codec}
use Rattle.unit_messages.specs.steps.Steps.{step_after}
use Rattle.pdcp_bearers.specs.ue_bearers.Senders.{from_on}
use Rattle.cu_up_bearer.specs.downlink.Downlinks.{with_down}
use Rattle.cu_up_bearer.proofs.downlink.Resends.{again}
use Rattle.cu_up_bearer.proofs.downlink.down.DownSide.send_unconfirmed.Given as goal

-- what was sent, and what is sent from this COUNT on, is all
abbrev pub invariant-loop-count : goal.invariant-loop-count
invariant-loop-count l = record {
  all : (codec : Codec) (b : CuUpBearer) → step_after l.out (again codec l.at (with_down b l.self) (from_on l.from l.self.sending.sender.unconfirmed))
      ≡ step_after l.initial.out (again codec l.at (with_down b l.initial.self) (from_on 0 l.initial.self.sending.sender.unconfirmed));
  sending : l.self.sending ≡ l.initial.self.sending;
}

abbrev pub decreases-loop-count : goal.decreases-loop-count
decreases-loop-count l = length (from_on l.from l.self.sending.sender.unconfirmed)
