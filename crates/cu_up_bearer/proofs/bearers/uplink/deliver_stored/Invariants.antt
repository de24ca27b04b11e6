use Rattle.std.proofs.Common.{◌≡◌, length}
use Rattle.pdcp_defs.specs.Receivers.{deliver}
use Rattle.unit_defs.specs.CuUpRecords.{CuUpBearer}
use Rattle.unit_defs.specs.octet_defs.Codec.{Codec}
use Rattle.unit_messages.specs.steps.Steps.{step_after}
use Rattle.cu_up_bearer.specs.bearers.Bearers.{with_receiver, IsUp}
use Rattle.cu_up_bearer.proofs.bearers.Deliveries.{handing}
use Rattle.cu_up_bearer.proofs.bearers.uplink.deliver_stored.Given as goal

-- what was put out, and what is delivered from here on, is all
abbrev pub invariant-loop-count : goal.invariant-loop-count
invariant-loop-count l = record {
  all : (codec : Codec) (b : CuUpBearer) → step_after l.out (handing codec l.at b (deliver l.receiving.receiver))
      ≡ step_after l.initial.out (handing codec l.at b (deliver l.initial.receiving.receiver));
  of : IsUp l.at l.receiving;
}

abbrev pub decreases-loop-count : goal.decreases-loop-count
decreases-loop-count l = length l.receiving.receiver.stored
