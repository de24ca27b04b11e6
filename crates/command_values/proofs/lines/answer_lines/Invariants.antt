use Rattle.gnb_base.specs.Reading.{still_to_come}
use Rattle.command_values.specs.inside.Turns.{run_at}
use Rattle.command_values.proofs.Waiting.{WaitingFrom}
use Rattle.command_values.proofs.lines.answer_lines.Given as goal

-- what was answered so far
abbrev pub invariant-loop-waiting : goal.invariant-loop-waiting
invariant-loop-waiting g l =
    WaitingFrom l.fn.task (run_at l.fn.reader (g.S.Source.at l.fn.input) (g.K.Sink.at l.fn.output))
    (run_at l.reader (g.S.Source.at l.input) (g.K.Sink.at l.output)) l.waiting

abbrev pub decreases-loop-waiting : goal.decreases-loop-waiting
decreases-loop-waiting g l = still_to_come l.reader
