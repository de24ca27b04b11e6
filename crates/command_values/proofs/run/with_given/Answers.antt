use Rattle.std.proofs.Common.{refl}
use Rattle.command_values.specs.inside.Turns.{run_at}
use Rattle.command_values.proofs.Turned.{given_text, given_profile, no_profile}
use Rattle.command_values.proofs.run.with_given.Goals as goal

pub returns-in-Text : goal.returns-in-Text
returns-in-Text g c =
    given_text _ _ _ c.in-Text.module _
    (run_at c.with_module.new.reader (g.S.Source.at c.with_module.new.input) (g.K.Sink.at c.with_module.new.output))
    _ c.in-Text.is refl c.with_module.ensures

pub returns-in-Ok : goal.returns-in-Ok
returns-in-Ok g c =
    given_profile _ _ c.in-Builtin.version c.in-Ok.profile _ _
    (run_at c.with_module-in-Ok.new.reader (g.S.Source.at c.with_module-in-Ok.new.input) (g.K.Sink.at c.with_module-in-Ok.new.output))
    _ c.in-Builtin.is c.in-Ok.ensures c.module.ensures.syntax c.with_module-in-Ok.ensures

pub returns-in-Err : goal.returns-in-Err
returns-in-Err g c = no_profile _ _ _
