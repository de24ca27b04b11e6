use Rattle.command_run.specs.Run.{setting_of}
use Rattle.law_promise.proofs.Promise.{writes_one}
use Rattle.law_promise.proofs.what_is_written_keeps_the_promise.Goals as goal

pub returns : goal.returns
returns g c = λ codec items pdus keep plain before after end meets.
    writes_one (setting_of codec (g.U.Units.answer codec)) items pdus g.U.Units.in_range keep plain before after end meets
