-- Internal: the code's run.
use Rattle.std.specs.Prelude.{◌≡◌, false, List, None}
use Rattle.dup_defs.specs.declared.types.event.DupEvent.{DupEvent}
use Rattle.dup_defs.specs.dup_run_defs.Steps.{DupScript}
use Rattle.dup.specs.run.Runs.{DupState}
use Rattle.command_bearers.specs.declared.command_dup.config.DupConfig.{DupConfig}
use Rattle.command_bearers.specs.command_dup.Run.{run_of}

-- the run of a script, as the code has it
abbrev pub dup_of : DupConfig → DupScript → DupState
dup_of config script =
    record { sn = config.sn; quota = config.quota; run = script.now; ended = script.ended; lacks_memory = false }

-- the code has the run of these events, which goes on
pub record HasRun (config : DupConfig) (dup : DupState) (events : List DupEvent) : Type 0 where
  pub same : dup ≡ dup_of config (run_of config events)
  pub goes : (run_of config events).ended ≡ None
