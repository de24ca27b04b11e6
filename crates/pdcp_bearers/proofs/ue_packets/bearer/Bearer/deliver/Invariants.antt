use Rattle.std.proofs.Common.{◌≡◌, length}
use Rattle.pdcp_defs.specs.Receivers.{deliver}
use Rattle.unit_defs.specs.octet_defs.Codec.{Codec}
use Rattle.unit_messages.specs.steps.Steps.{step_after}
use Rattle.pdcp_bearers.specs.ue_packets.Bearers.{kept, terminal_of, IsOf}
use Rattle.pdcp_bearers.proofs.ue_packets.RowLemmas.{handing}
use Rattle.pdcp_bearers.proofs.ue_packets.bearer.Bearer.deliver.Given as goal

-- what was put out, and what is delivered from here on, is all
abbrev pub invariant-loop-count : goal.invariant-loop-count
invariant-loop-count l = record {
  all : (codec : Codec) → step_after l.out (handing codec (terminal_of l.terminal) l.bearer (kept l.self) (deliver l.self.downlink.receiver))
      ≡ step_after l.initial.out (handing codec (terminal_of l.terminal) l.bearer (kept l.initial.self) (deliver l.initial.self.downlink.receiver));
  uplink : l.self.uplink ≡ l.initial.self.uplink;
  of : IsOf l.terminal l.self;
}

abbrev pub decreases-loop-count : goal.decreases-loop-count
decreases-loop-count l = length l.self.downlink.receiver.stored
