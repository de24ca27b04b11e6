use Rattle.std.proofs.Common.{◌≡◌}
use Rattle.unit_defs.specs.Ue.{UeNode, connect_each}
use Rattle.unit_defs.specs.octet_defs.Codec.{Codec, octet_way}
use Rattle.unit_messages.specs.steps.Steps.{step_after}
use Rattle.ue_node.specs.rows.Records.{numbered, ArePlanned, IsTerminalOf}
use Rattle.ue_node.proofs.rows.RowSteps.{connecting}
use Rattle.ue_node.proofs.rows.access.connect_each.Given as goal

-- what was put out, and what the bearers from this index on put out, is all
abbrev pub invariant-loop-number : goal.invariant-loop-number
invariant-loop-number l = record {
  all : (codec : Codec) (u : UeNode) → IsTerminalOf u l.terminal
      → connecting codec u l.out l.number l.bearers ≡ step_after l.initial.out (connect_each (octet_way codec) u (numbered 1 l.initial.bearers));
  sound : ArePlanned l.terminal.plan l.bearers;
}
