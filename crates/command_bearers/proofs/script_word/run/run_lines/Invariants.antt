use Rattle.gnb_base.specs.Reading.{still_to_come}
use Rattle.command_defs.specs.Outside.{outside}
use Rattle.command_bearers.specs.script_word.inside.Turns.{run_at, SoFar}
use Rattle.command_bearers.proofs.script_word.run.run_lines.Given as goal

-- what was run so far
abbrev pub invariant-loop-more : goal.invariant-loop-more
invariant-loop-more g l =
    SoFar (g.W.ScriptWord.meaning l.fn.word) (g.W.ScriptWord.ran l.fn.word l.run)
    (outside (g.S.Source.at l.fn.input) (g.K.Sink.at l.fn.output))
    (run_at l.reader (g.S.Source.at l.input) (g.K.Sink.at l.output) l.events)

abbrev pub decreases-loop-more : goal.decreases-loop-more
decreases-loop-more g l = still_to_come l.reader
