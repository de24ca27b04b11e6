use Rattle.std.proofs.Common.{◌∙◌}
use Rattle.run_defs.specs.UnitRuns.{UnitRun}
use Rattle.command_run.specs.generate.Script.{script}
use Rattle.command_run.proofs.generate.Wrote.{wrote_all, wrote_front}
use Rattle.command_run.proofs.generate.word.run_generated.Goals as goal

pub returns-in-Ok-write_all-clause-meets : goal.returns-in-Ok-write_all-clause-meets
returns-in-Ok-write_all-clause-meets g c =
    (wrote_all (UnitRun g.C.MessageCodec.codec g.U.Units.answer (script c.args.packets)) c.args.packets (g.S.Source.at c.args.input.now)
    (g.K.Sink.at c.args.output.now) (g.K.Sink.at c.write_all.new.output) c.status.result c.in-Ok.end c.as_slice.result.now c.in-Ok.ensures
    (c.as_slice.ensures ∙ c.in-Ok-text.ensures) c.status.ensures c.in-Ok-write_all.ensures).meets

pub returns-in-Ok-write_all-clause-complete : goal.returns-in-Ok-write_all-clause-complete
returns-in-Ok-write_all-clause-complete g c =
    (wrote_all (UnitRun g.C.MessageCodec.codec g.U.Units.answer (script c.args.packets)) c.args.packets (g.S.Source.at c.args.input.now)
    (g.K.Sink.at c.args.output.now) (g.K.Sink.at c.write_all.new.output) c.status.result c.in-Ok.end c.as_slice.result.now c.in-Ok.ensures
    (c.as_slice.ensures ∙ c.in-Ok-text.ensures) c.status.ensures c.in-Ok-write_all.ensures).complete

pub returns-clause-meets : goal.returns-clause-meets
returns-clause-meets g c =
    (wrote_front (UnitRun g.C.MessageCodec.codec g.U.Units.answer (script c.args.packets)) c.args.packets (g.S.Source.at c.args.input.now)
    (g.K.Sink.at c.args.output.now) (g.K.Sink.at c.write_all.new.output) c.common_status-in-Err.result c.in-Ok.end c.as_slice.result.now
    c.in-Ok.ensures (c.as_slice.ensures ∙ c.in-Ok-text.ensures) c.common_status-in-Err.ensures c.in-Err.ensures).meets
