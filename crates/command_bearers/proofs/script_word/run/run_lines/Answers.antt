use Rattle.std.proofs.Common.{arith}
use Rattle.command_defs.specs.Outside.{outside}
use Rattle.command_bearers.specs.script_word.inside.Turns.{run_at}
use Rattle.command_bearers.proofs.script_word.Turned.{begins, no_room, turn_on, turn_ends}
use Rattle.command_bearers.proofs.script_word.run.run_lines.Goals as goal

pub returns-in_default : goal.returns-in_default
returns-in_default g c = no_room (g.W.ScriptWord.meaning c.args.word.now) _ _

pub returns-in_default-begin : goal.returns-in_default-begin
returns-in_default-begin g c = no_room (g.W.ScriptWord.meaning c.args.word.now) _ _

pub loop-more-init : goal.loop-more-init
loop-more-init g c =
    begins (g.W.ScriptWord.meaning c.args.word.now) _ _ _ _ (g.met.W.ScriptWord.lawful c.args.word.now) c.in-Ok.ensures c.in-Ok-begin.ensures

pub overflow_add-events : goal.overflow_add-events
overflow_add-events g c =
    let s = turn_on (g.W.ScriptWord.meaning c.args.word.now) (g.W.ScriptWord.ran c.args.word.now c.take_line.new.run)
    (outside (g.S.Source.at c.args.input.now) (g.K.Sink.at c.args.output.now))
    (run_at c.take_line.new.reader (g.S.Source.at c.take_line.new.input) (g.K.Sink.at c.take_line.new.output) c.loop-more.events)
    _ _ c.in-Ok-Some.field-0-is (c.in-Ok-Some.ensures.meets _ _ c.loop-more.invariant) in
    omega (arith, s.bounded)

pub loop-more-preserved : goal.loop-more-preserved
loop-more-preserved g c =
    turn_on (g.W.ScriptWord.meaning c.args.word.now) (g.W.ScriptWord.ran c.args.word.now c.take_line.new.run)
    (outside (g.S.Source.at c.args.input.now) (g.K.Sink.at c.args.output.now))
    (run_at c.take_line.new.reader (g.S.Source.at c.take_line.new.input) (g.K.Sink.at c.take_line.new.output) c.loop-more.events)
    _ _ c.in-Ok-Some.field-0-is (c.in-Ok-Some.ensures.meets _ _ c.loop-more.invariant)

pub returns-in-Ok-None : goal.returns-in-Ok-None
returns-in-Ok-None g c =
    turn_ends (g.W.ScriptWord.meaning c.args.word.now) (g.W.ScriptWord.ran c.args.word.now c.take_line.new.run)
    (outside (g.S.Source.at c.args.input.now) (g.K.Sink.at c.args.output.now))
    (run_at c.take_line.new.reader (g.S.Source.at c.take_line.new.input) (g.K.Sink.at c.take_line.new.output) c.loop-more.events)
    _ c.in-Ok-None.field-0-is (c.in-Ok-None.ensures.meets _ _ c.loop-more.invariant)

pub returns-in-Err : goal.returns-in-Err
returns-in-Err g c = c.in-Err.ensures.meets _ _ c.loop-more.invariant
