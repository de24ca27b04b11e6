-- What the word `duplicate` means: the run of a script of one bearer with duplication.
use Rattle.std.specs.Prelude.{ℕ, List, ◌++◌}
use Rattle.std.specs.List.{flat_map}
use Rattle.std.specs.Option.{option_map}
use Rattle.dup_defs.specs.declared.types.event.DupEvent.{DupEvent}
use Rattle.dup_defs.specs.declared.types.stop.DupEnd.{DupEnd}
use Rattle.dup_defs.specs.declared.types.stop.DupEnd.TheVariants as ends
use Rattle.dup_defs.specs.dup_run_defs.Steps.{DupHappening, DupScript, script_of}
use Rattle.dup.specs.text.Grammar.{event_of}
use Rattle.dup.specs.text.Print.{print, happens_text}
use Rattle.command_defs.specs.declared.Status.{Status}
use Rattle.command_defs.specs.Outside.{OutsideAt}
use Rattle.command_bearers.specs.declared.command_dup.config.DupConfig.{DupConfig}
use Rattle.command_bearers.specs.declared.script_word.end.StopCause.{StopCause}
use Rattle.command_bearers.specs.declared.script_word.end.StopCause.TheVariants.{Outstanding, Spent}
use Rattle.command_bearers.specs.declared.script_word.end.ScriptEnd.{ScriptEnd}
use Rattle.command_bearers.specs.script_word.Meaning.{WordMeaning}
use Rattle.command_bearers.specs.script_word.Run.{ScriptMeets}
use Rattle.command_bearers.specs.script_word.Whole.{RunsWholly}

abbrev pub run_of : DupConfig → List DupEvent → DupScript
run_of config events = script_of config.sn config.quota events

-- an event's own line, and the lines that it prints
abbrev pub happening_text : DupHappening → List ℕ
happening_text h = happens_text h.event ++ print h.printed

-- the text of the run of these events
abbrev pub script_text : DupConfig → List DupEvent → List ℕ
script_text config events = flat_map happening_text (run_of config events).happened

-- the counter of COUNTs
abbrev pub counts : ℕ
counts = 4

abbrev pub cause_of : DupEnd → StopCause
cause_of (ends.Outstanding far window) = Outstanding
cause_of ends.CountsSpent = Spent counts

abbrev pub dup_meaning : DupConfig → WordMeaning DupEvent
dup_meaning config = record { event_of = event_of; text = script_text config; stopped = λ events. option_map cause_of (run_of config events).ended }

-- what was taken from the source, the events of its lines, how the script ended, what was written, and where a call failed
abbrev pub DupMeets : DupConfig → OutsideAt → OutsideAt → ScriptEnd → Type 0
DupMeets config before after end = ScriptMeets (dup_meaning config) before after end

-- a whole script is run to its end, unless memory runs out
abbrev pub RunsDup : DupConfig → OutsideAt → OutsideAt → Status → Type 0
RunsDup config before after status = RunsWholly (dup_meaning config) before after status
