use Rattle.std.proofs.Common.{◌≡◌, length}
use Rattle.unit_defs.specs.octet_defs.Codec.{Codec}
use Rattle.unit_messages.specs.steps.Steps.{step_after}
use Rattle.pdcp_bearers.specs.ue_packets.Bearers.{terminal_of, IsOf}
use Rattle.pdcp_bearers.proofs.ue_packets.RowLemmas.{rest}
use Rattle.pdcp_bearers.proofs.ue_packets.bearer.Bearer.number_waiting.Given as goal

-- what was put out, and what is numbered from here on, is all
abbrev pub invariant-loop-count : goal.invariant-loop-count
invariant-loop-count l = record {
  all : (codec : Codec) → step_after l.out (rest codec (terminal_of l.terminal) l.bearer l.self.uplink l.self.downlink.receiver)
      ≡ step_after l.initial.out (rest codec (terminal_of l.terminal) l.bearer l.initial.self.uplink l.initial.self.downlink.receiver);
  of : IsOf l.terminal l.self;
}

abbrev pub decreases-loop-count : goal.decreases-loop-count
decreases-loop-count l = length l.self.uplink.waiting
