-- What is written by a call of `run`, whatever its end, and what holds of it.
use Rattle.std.specs.Prelude.{List}
use Rattle.std.specs.List.{AllByRecursion}
use Rattle.command_defs.specs.input_defs.Split.{InputSplit, rest_of, TakesInput}
use Rattle.scenario_text.specs.Texts.{InRange}
use Rattle.scenario_text.specs.declared.event.Event.{Event}
use Rattle.run_defs.specs.Said.{all_lines, Wires}
use Rattle.command_defs.specs.Outside.{OutsideAt}
use Rattle.command_run.specs.Run.{Setting, AreScript, RunEndMeets, PrintsRun, run_of, run_text}
use Rattle.command_run.specs.declared.end.RunEnd.{RunEnd}
use Rattle.law_octets_say_the_same.specs.octet_facts.Ranges.{IsDown}
use Rattle.law_octets_say_the_same.specs.octet_downlink.Promise.{KeepsPromise}

pub record WritesOne (setting : Setting) (before after : OutsideAt) (end : RunEnd) : Type 0 where
  -- the lines that were taken up to where the call ended are a header and these events, whose words are in their ranges; or no more than a
  -- part of a header, and no events
  pub split : InputSplit
  pub events : List Event
  pub input : TakesInput before.source after.source split
  pub script : AreScript (rest_of before.source after.source) split events
  pub in_ranges : AllByRecursion InRange events
  -- the call ended so: where it was done, all lines were taken and the run of the events didn't stop
  pub ends : RunEndMeets setting (rest_of before.source after.source) split events end
  -- the text of their run was written, with the last line, and nothing else; or a front of it where a write failed or memory ran out
  pub prints : PrintsRun before.sink after.sink (RunEndMeets setting (rest_of before.source after.source) split events) (run_text setting events) end
  -- its links keep their order, and of packets down the promise is kept
  pub wires : Wires (all_lines (run_of setting events).events)
  pub promise : AllByRecursion IsDown events → KeepsPromise setting.codec (run_of setting events).events
