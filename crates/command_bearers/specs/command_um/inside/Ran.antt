-- Internal: the code's run.
use Rattle.std.specs.Prelude.{◌≡◌, false, List, None}
use Rattle.um_defs.specs.declared.types.event.UmEvent.{UmEvent}
use Rattle.um_defs.specs.um_run_defs.Script.{UmScript}
use Rattle.um.specs.run.Worlds.{UmWorldState}
use Rattle.command_bearers.specs.declared.command_um.config.UmConfig.{UmConfig}
use Rattle.command_bearers.specs.command_um.Run.{run_of}

-- the run of a script, as the code has it
abbrev pub world_of : UmConfig → UmScript → UmWorldState
world_of config script = record { sn = config.sn; ticks = config.ticks; run = script.now; ended = script.ended; lacks_memory = false }

-- the code has the run of these events, which goes on
pub record HasRun (config : UmConfig) (world : UmWorldState) (events : List UmEvent) : Type 0 where
  pub same : world ≡ world_of config (run_of config events)
  pub goes : (run_of config events).ended ≡ None
