use Rattle.std.proofs.Common.{◌≡◌, ℕ, List, ◌++◌, length}
use Rattle.command_defs.specs.Outside.{NoWriteFailed}
use Rattle.command_defs.specs.Output.{Prints}
use Rattle.commands.proofs.command_output.write.write_all.Given as goal

-- a front was written, and the rest is left
abbrev pub invariant-loop-rest : goal.invariant-loop-rest
invariant-loop-rest g l = record {
  part : (part : List ℕ) × (l.bytes ≡ part ++ l.rest) × Prints (g.K.Sink.at l.fn.output) (g.K.Sink.at l.output) part;
  none : NoWriteFailed (g.K.Sink.at l.fn.output) (g.K.Sink.at l.output);
}

abbrev pub decreases-loop-rest : goal.decreases-loop-rest
decreases-loop-rest g l = length l.rest
