-- What the word `um` means: the run of a script of one unacknowledged bearer.
use Rattle.std.specs.Prelude.{ℕ, List, ◌++◌}
use Rattle.std.specs.List.{flat_map}
use Rattle.std.specs.Option.{option_map}
use Rattle.um_defs.specs.declared.types.event.UmEvent.{UmEvent}
use Rattle.um_defs.specs.declared.types.stop.UmEnd.{UmEnd}
use Rattle.um_defs.specs.declared.types.stop.UmEnd.TheVariants as ends
use Rattle.um_defs.specs.um_run_defs.Script.{UmHappening, UmScript, script_of}
use Rattle.um.specs.text.Grammar.{event_of}
use Rattle.um.specs.text.Print.{print, happens_text}
use Rattle.command_defs.specs.declared.Status.{Status}
use Rattle.command_defs.specs.Outside.{OutsideAt}
use Rattle.command_bearers.specs.declared.command_um.config.UmConfig.{UmConfig}
use Rattle.command_bearers.specs.declared.script_word.end.StopCause.{StopCause}
use Rattle.command_bearers.specs.declared.script_word.end.StopCause.TheVariants.{Outstanding, Spent}
use Rattle.command_bearers.specs.declared.script_word.end.ScriptEnd.{ScriptEnd}
use Rattle.command_bearers.specs.script_word.Meaning.{WordMeaning}
use Rattle.command_bearers.specs.script_word.Run.{ScriptMeets}
use Rattle.command_bearers.specs.script_word.Whole.{RunsWholly}

abbrev pub run_of : UmConfig → List UmEvent → UmScript
run_of config events = script_of config.sn config.ticks events

-- an event's own line, and the lines that it prints
abbrev pub happening_text : UmHappening → List ℕ
happening_text h = happens_text h.event ++ print h.printed

-- the text of the run of these events
abbrev pub script_text : UmConfig → List UmEvent → List ℕ
script_text config events = flat_map happening_text (run_of config events).happened

abbrev pub cause_of : UmEnd → StopCause
cause_of (ends.Outstanding far window) = Outstanding
cause_of (ends.Spent counter) = Spent counter

abbrev pub um_meaning : UmConfig → WordMeaning UmEvent
um_meaning config = record { event_of = event_of; text = script_text config; stopped = λ events. option_map cause_of (run_of config events).ended }

-- what was taken from the source, the events of its lines, how the script ended, what was written, and where a call failed
abbrev pub UmMeets : UmConfig → OutsideAt → OutsideAt → ScriptEnd → Type 0
UmMeets config before after end = ScriptMeets (um_meaning config) before after end

-- a whole script is run to its end, unless memory runs out
abbrev pub RunsUm : UmConfig → OutsideAt → OutsideAt → Status → Type 0
RunsUm config before after status = RunsWholly (um_meaning config) before after status
