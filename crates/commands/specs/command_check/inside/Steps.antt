-- Internal: what finding the end of the input does.
use Rattle.std.specs.Prelude.{◌≡◌, Some, None, Result, Ok, Err}
use Rattle.gnb_base.specs.declared.lines.Line.{Line}
use Rattle.gnb_base.specs.Outside.{SourceAt}
use Rattle.gnb_base.specs.Reading.{Reading, NextMeets}
use Rattle.command_defs.specs.declared.input_defs.InputEnd.{InputEnd}
use Rattle.commands.specs.input_lines.ReadsLine.{StopsReading}
use Rattle.scenario_text.specs.declared.script_words.reason.TextReason.TheVariants.{Extra}
use Rattle.commands.specs.declared.input_module.stop.ModuleStop.{ModuleStop}
use Rattle.commands.specs.declared.input_module.stop.ModuleStop.TheVariants.{Script, Input}

pub data EndStops (old new : Reading) (before after : SourceAt) (stop : ModuleStop) : Type 0 where
  EndUnread : (why : InputEnd) → StopsReading old new before after why → stop ≡ Input why → EndStops old new before after stop
  OneMore : (line : Line) → NextMeets old new before after (Ok (Some line)) → stop ≡ Script line.number Extra
      → EndStops old new before after stop

abbrev pub EndMeets : Reading → Reading → SourceAt → SourceAt → Result (Unit {0}) ModuleStop → Type 0
EndMeets old new before after (Ok done) = NextMeets old new before after (Ok None)
EndMeets old new before after (Err stop) = EndStops old new before after stop
