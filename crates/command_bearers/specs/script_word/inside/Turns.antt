-- Internal: what reading, understanding and applying one line does.
use Rattle.std.specs.Prelude.{◌≡◌, ◌≤◌, ◌+◌, ℕ, true, false, List, length, Option, Some, None, Result, Ok, Err}
use Rattle.gnb_base.specs.declared.lines.Line.{Line}
use Rattle.gnb_base.specs.Outside.{SourceAt, SinkAt}
use Rattle.gnb_base.specs.Reading.{Reading, input_limit}
use Rattle.command_defs.specs.input_defs.Standing.{StandsAfter}
use Rattle.scenario_text.specs.declared.script_words.reason.TextReason.{TextReason}
use Rattle.scenario_text.specs.Grammar.{is_skipped}
use Rattle.command_defs.specs.Outside.{OutsideAt, outside}
use Rattle.command_defs.specs.declared.CommonEnd.TheVariants.{Memory}
use Rattle.commands.specs.command_output.Writes.{WritesAll}
use Rattle.command_bearers.specs.declared.script_word.end.ScriptEnd.{ScriptEnd}
use Rattle.command_bearers.specs.declared.script_word.end.ScriptEnd.TheVariants.{Done, Script, Common}
use Rattle.command_bearers.specs.script_word.Meaning.{WordMeaning}
use Rattle.command_bearers.specs.script_word.Run.{AreEvents}
use Rattle.command_bearers.specs.script_word.inside.Stops.{RunsTo}

-- ---- a line

-- it is an event
pub record IsEvent {Event : Type 0} (m : WordMeaning Event) (InRange : Event → Type 0) (text : List ℕ) (event : Event) : Type 0 where
  pub one : is_skipped text ≡ false
  pub read : m.event_of text ≡ Ok event
  pub range : InRange event

-- it is refused, or memory ran out
pub data LineStops {Event : Type 0} (m : WordMeaning Event) (line : Line) (end : ScriptEnd) : Type 0 where
  Refused : (reason : TextReason) → is_skipped line.text ≡ false → m.event_of line.text ≡ Err reason → end ≡ Script line.number reason
      → LineStops m line end
  NoMemory : end ≡ Common Memory → LineStops m line end

abbrev pub Means : {Event : Type 0} → WordMeaning Event → (Event → Type 0) → Line → Result (Option Event) ScriptEnd → Type 0
Means m InRange line (Ok None) = is_skipped line.text ≡ true
Means m InRange line (Ok (Some event)) = IsEvent m InRange line.text event
Means m InRange line (Err end) = LineStops m line end

-- ---- a script so far

-- the reader, the source and the sink at one moment, and how many events were applied
pub record RunAt : Type 0 where
  pub reading : Reading
  pub source : SourceAt
  pub sink : SinkAt
  pub count : ℕ

abbrev pub run_at : Reading → SourceAt → SinkAt → ℕ → RunAt
run_at reading source sink count = record { reading = reading; source = source; sink = sink; count = count }

abbrev pub outside_of : RunAt → OutsideAt
outside_of r = outside r.source r.sink

-- The lines that were handed out give these events, whose text was written; their run goes on, and the code has it.
pub record SoFar {Event : Type 0} (m : WordMeaning Event) (Ran : List Event → Type 0) (first : OutsideAt) (now : RunAt) : Type 0 where
  pub taken : List ℕ
  pub lines : List (List ℕ)
  pub events : List Event
  pub stands : StandsAfter first.source now.source now.reading taken lines
  pub are : AreEvents m lines events
  pub writes : WritesAll first.sink now.sink (m.text events)
  pub ran : Ran events
  pub goes : m.stopped events ≡ None
  pub counted : now.count ≡ length events
  pub few : now.count ≤ now.reading.lines
  pub bounded : now.count ≤ input_limit

-- so many events more; or the end of the input, or why the script ends
abbrev pub TurnMeets : {Event : Type 0} → WordMeaning Event → (List Event → Type 0) → OutsideAt → RunAt → Result (Option ℕ) ScriptEnd → Type 0
TurnMeets m Ran first now (Ok None) = RunsTo m first (outside_of now) (Done now.count)
TurnMeets m Ran first now (Ok (Some more)) = SoFar m Ran first (record now { count = now.count + more })
TurnMeets m Ran first now (Err end) = RunsTo m first (outside_of now) end
