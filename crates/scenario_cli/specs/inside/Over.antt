-- Internal: all that is promised of a script that is run over units.
use Rattle.command_defs.specs.declared.Status.{Status}
use Rattle.command_defs.specs.Outside.{OutsideAt}
use Rattle.command_run.specs.Ends.{StopsAtEvent}
use Rattle.command_run.specs.Run.{Setting}
use Rattle.command_run.specs.Whole.{RunsWholly}
use Rattle.scenario_cli.specs.Gnb.{RunsScript}

pub record RunsOver (setting : Setting) (before after : OutsideAt) (status : Status) : Type 0 where
  pub script : RunsScript setting before after status
  pub near : StopsAtEvent before.source after.source status
  pub wholly : RunsWholly setting before after status
