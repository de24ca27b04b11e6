use Rattle.gnb_base.specs.Outside.{SinkAt}
use Rattle.command_values.specs.inside.Turns.{RunAt, run_at, once_written}
use Rattle.command_values.specs.declared.end.ValuesEnd.TheVariants.{Done}
use Rattle.command_values.proofs.Turned.{turns_at, ends_at_done, turn_stops}
use Rattle.command_values.proofs.Waiting.{from_begin, before_read, cut_before_read, done_faultless, turn_faultless, turn_falls, done_waits, turn_waits, finished}
use Rattle.command_values.proofs.lines.answer_lines.Goals as goal

pub loop-waiting-init : goal.loop-waiting-init
loop-waiting-init g c =
    from_begin c.args.task (run_at c.args.reader.now (g.S.Source.at c.args.input.now) (g.K.Sink.at c.args.output.now)) c.new-waiting.result
    c.new-waiting.ensures

pub returns-in-Err : goal.returns-in-Err
returns-in-Err g c =
    let start : RunAt = run_at c.args.reader.now (g.S.Source.at c.args.input.now) (g.K.Sink.at c.args.output.now) in
    let old : RunAt = run_at c.loop-waiting.reader (g.S.Source.at c.loop-waiting.input) (g.K.Sink.at c.loop-waiting.output) in
    cut_before_read c.args.task start old (g.K.Sink.at c.write_before_read.new.output) c.loop-waiting.waiting c.loop-waiting.invariant
    c.in-Err.ensures.front

pub loop-waiting-smaller : goal.loop-waiting-smaller
loop-waiting-smaller g c =
    let sink : SinkAt = g.K.Sink.at c.write_before_read.new.output in
    turn_falls c.args.task (run_at c.loop-waiting.reader (g.S.Source.at c.loop-waiting.input) (once_written sink c.write_before_read.new.waiting))
    (run_at c.answer_line.new.reader (g.S.Source.at c.answer_line.new.input) (once_written sink c.answer_line.new.waiting))
    c.in-Ok-true.field-0 c.in-Ok-true.field-0-test (c.in-Ok-true.ensures sink)

pub loop-waiting-preserved : goal.loop-waiting-preserved
loop-waiting-preserved g c =
    let start : RunAt = run_at c.args.reader.now (g.S.Source.at c.args.input.now) (g.K.Sink.at c.args.output.now) in
    let old : RunAt = run_at c.loop-waiting.reader (g.S.Source.at c.loop-waiting.input) (g.K.Sink.at c.loop-waiting.output) in
    let sink : SinkAt = g.K.Sink.at c.write_before_read.new.output in
    let so_far =
    before_read c.args.task start old sink (c.loop-waiting.waiting, c.write_before_read.new.waiting) c.loop-waiting.invariant c.in-Ok.ensures.ok in (
      turns_at c.args.task start (run_at old.reading old.source (once_written sink c.write_before_read.new.waiting))
          (run_at c.answer_line.new.reader (g.S.Source.at c.answer_line.new.input) (once_written sink c.answer_line.new.waiting))
          c.in-Ok-true.field-0 c.in-Ok-true.field-0-test so_far.0 (c.in-Ok-true.ensures sink),
      so_far.1,
    )

pub returns-in-Ok-false : goal.returns-in-Ok-false
returns-in-Ok-false g c =
    let start : RunAt = run_at c.args.reader.now (g.S.Source.at c.args.input.now) (g.K.Sink.at c.args.output.now) in
    let old : RunAt = run_at c.loop-waiting.reader (g.S.Source.at c.loop-waiting.input) (g.K.Sink.at c.loop-waiting.output) in
    let sink : SinkAt = g.K.Sink.at c.write_before_read.new.output in
    let so_far =
    before_read c.args.task start old sink (c.loop-waiting.waiting, c.write_before_read.new.waiting) c.loop-waiting.invariant c.in-Ok.ensures.ok in
    let now : RunAt = run_at c.answer_line.new.reader (g.S.Source.at c.answer_line.new.input) sink in
    finished c.args.task start now (g.K.Sink.at c.finish_answers.new.output) c.answer_line.new.waiting Done c.finish_answers.result done_faultless
    (done_waits c.answer_line.new.waiting)
    (ends_at_done c.args.task start (run_at old.reading old.source (once_written sink c.write_before_read.new.waiting))
    (run_at now.reading now.source (once_written sink c.answer_line.new.waiting)) c.in-Ok-false.field-0 c.in-Ok-false.field-0-test so_far.0
    (c.in-Ok-false.ensures sink))
    so_far.1 c.finish_answers.ensures

pub returns-in-Err-answer_line : goal.returns-in-Err-answer_line
returns-in-Err-answer_line g c =
    let start : RunAt = run_at c.args.reader.now (g.S.Source.at c.args.input.now) (g.K.Sink.at c.args.output.now) in
    let old : RunAt = run_at c.loop-waiting.reader (g.S.Source.at c.loop-waiting.input) (g.K.Sink.at c.loop-waiting.output) in
    let sink : SinkAt = g.K.Sink.at c.write_before_read.new.output in
    let so_far =
    before_read c.args.task start old sink (c.loop-waiting.waiting, c.write_before_read.new.waiting) c.loop-waiting.invariant c.in-Ok.ensures.ok in
    let before : RunAt = run_at old.reading old.source (once_written sink c.write_before_read.new.waiting) in
    let now : RunAt = run_at c.answer_line.new.reader (g.S.Source.at c.answer_line.new.input) sink in
    let after : RunAt = run_at now.reading now.source (once_written sink c.answer_line.new.waiting) in
    finished c.args.task start now (g.K.Sink.at c.finish_answers-in-Err-answer_line.new.output) c.answer_line.new.waiting c.in-Err-answer_line.end
    c.finish_answers-in-Err-answer_line.result (turn_faultless c.args.task before after c.in-Err-answer_line.end (c.in-Err-answer_line.ensures sink))
    (turn_waits c.args.task old.reading now.reading old.source now.source old.sink sink (c.loop-waiting.waiting, c.write_before_read.new.waiting)
    c.answer_line.new.waiting c.in-Err-answer_line.end c.in-Ok.ensures.ok c.in-Err-answer_line.ensures)
    (turn_stops c.args.task start before after c.in-Err-answer_line.end so_far.0 (c.in-Err-answer_line.ensures sink)) so_far.1
    c.finish_answers-in-Err-answer_line.ensures
