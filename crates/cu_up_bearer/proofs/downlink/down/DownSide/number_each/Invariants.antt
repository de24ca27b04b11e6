use Rattle.std.proofs.Common.{◌≡◌, length}
use Rattle.unit_defs.specs.CuUpRecords.{CuUpBearer}
use Rattle.unit_defs.specs.octet_defs.Codec.{Codec}
use Rattle.unit_messages.specs.steps.Steps.{step_after}
use Rattle.cu_up_bearer.specs.downlink.Downlinks.{IsDown}
use Rattle.cu_up_bearer.proofs.downlink.Numberings.{rest}
use Rattle.cu_up_bearer.proofs.downlink.down.DownSide.number_each.Given as goal

-- what was put out, and what is numbered from here on, is all
abbrev pub invariant-loop-count : goal.invariant-loop-count
invariant-loop-count l = record {
  all : (codec : Codec) (b : CuUpBearer) → step_after l.out (rest codec l.at b l.self) ≡ step_after l.initial.out (rest codec l.at b l.initial.self);
  of : IsDown l.at l.self;
}

abbrev pub decreases-loop-count : goal.decreases-loop-count
decreases-loop-count l = length l.self.sending.waiting
