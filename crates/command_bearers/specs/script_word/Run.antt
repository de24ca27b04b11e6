-- What a word does whose input is a script without a header, for every input, every list of failing calls, and every end.
use Rattle.std.specs.Prelude.{◌≡◌, ◌+◌, ◌<◌, ℕ, false, List, [], ◌∷◌, ◌++◌, map, length, Option, Some, None, Result, Ok, Err, IfSome, if◌then◌else◌}
use Rattle.std.specs.List.{flat_map}
use Rattle.gnb_base.specs.Outside.{SinkAt}
use Rattle.gnb_base.specs.Reading.{piece_size}
use Rattle.command_defs.specs.input_defs.Split.{InputSplit, rest_of, TakesInput}
use Rattle.command_defs.specs.input_defs.Ends.{ComesNext, IsReadToEnd, IsReadFault, IsTooLong}
use Rattle.scenario_text.specs.declared.script_words.reason.TextReason.{TextReason}
use Rattle.scenario_text.specs.Grammar.{is_skipped}
use Rattle.command_defs.specs.declared.CommonEnd.TheVariants.{ReadFault, TooLong, WriteFault, Memory}
use Rattle.command_defs.specs.Outside.{OutsideAt, CallsTo}
use Rattle.command_defs.specs.Output.{Prints, PrintsFront, WritesBeforeReads}
use Rattle.command_bearers.specs.declared.script_word.end.StopCause.{StopCause}
use Rattle.command_bearers.specs.declared.script_word.end.ScriptEnd.{ScriptEnd}
use Rattle.command_bearers.specs.declared.script_word.end.ScriptEnd.TheVariants.{Done, Script, Stopped, Common}
use Rattle.command_bearers.specs.script_word.Ends.{script_status, end_text}
use Rattle.command_bearers.specs.script_word.Meaning.{WordMeaning}

-- ---- the input

-- what a line means: nothing where it is skipped
abbrev pub meanings : {Event : Type 0} → WordMeaning Event → List ℕ → List (Result Event TextReason)
meanings m line = if is_skipped line then [] else m.event_of line ∷ []

-- the lines are these events and skipped lines
abbrev pub AreEvents : {Event : Type 0} → WordMeaning Event → List (List ℕ) → List Event → Type 0
AreEvents m lines events = flat_map (meanings m) lines ≡ map (λ event. Ok event) events

-- ---- how it ends, after the lines that were handed out

-- the next line is not an event, and not skipped
pub record IsWrongLine {Event : Type 0} (m : WordMeaning Event) (left : Option (List ℕ)) (split : InputSplit) (place : ℕ) (reason : TextReason) : Type 0 where
  pub line : List ℕ
  pub next : ComesNext left split.kept line
  pub at : place ≡ length split.lines + 1
  pub skip : is_skipped line ≡ false
  pub wrong : m.event_of line ≡ Err reason

-- the run stops so in the event of the last line, and in none before it
pub record EndsInLast {Event : Type 0} (m : WordMeaning Event) (split : InputSplit) (events : List Event) (place : ℕ) (cause : StopCause) : Type 0 where
  pub earlier : List Event
  pub last : Event
  pub lines : List (List ℕ)
  pub line : List ℕ
  pub parts : events ≡ earlier ++ last ∷ []
  pub line_parts : split.lines ≡ lines ++ line ∷ []
  pub means : meanings m line ≡ Ok last ∷ []
  pub goes : m.stopped earlier ≡ None
  pub stops : m.stopped events ≡ Some cause
  pub at : place ≡ length split.lines
  -- after this line fewer bytes were taken than one read asks for
  pub few : length split.kept < piece_size

abbrev pub EndMeets : {Event : Type 0} → WordMeaning Event → Option (List ℕ) → InputSplit → List Event → ScriptEnd → Type 0
EndMeets m left split events (Done count) = (m.stopped events ≡ None) × IsReadToEnd left split × (count ≡ length events)
EndMeets m left split events (Script place reason) = (m.stopped events ≡ None) × IsWrongLine m left split place reason
EndMeets m left split events (Stopped place cause) = EndsInLast m split events place cause
EndMeets m left split events (Common (ReadFault taken)) = (m.stopped events ≡ None) × IsReadFault split taken
EndMeets m left split events (Common TooLong) = (m.stopped events ≡ None) × IsTooLong split
EndMeets m left split events (Common WriteFault) = Unit {0}
EndMeets m left split events (Common Memory) = Unit {0}

-- ---- the output

-- the text of a run, and what is written at the end, if that is known
abbrev pub text_to : List ℕ → Option ScriptEnd → List ℕ
text_to text None = text
text_to text (Some end) = text ++ end_text end

-- At the end of a script the text of its run and the last line were written. A write that fails leaves a front of the text, up to the end
-- that the script had come to; out of memory a front of the run's text.
abbrev pub PrintsScript : SinkAt → SinkAt → (ScriptEnd → Type 0) → List ℕ → ScriptEnd → Type 0
PrintsScript before after Meets text (Common WriteFault) =
    (other : Option ScriptEnd) × IfSome other Meets × PrintsFront before after (text_to text other)
PrintsScript before after Meets text (Common Memory) = PrintsFront before after text
PrintsScript before after Meets text end = Prints before after (text_to text (Some end))

-- what was taken from the source, the events of its lines, how the script ended, what was written, and where a call failed
pub record ScriptMeets {Event : Type 0} (m : WordMeaning Event) (before after : OutsideAt) (end : ScriptEnd) : Type 0 where
  pub split : InputSplit
  pub events : List Event
  pub input : TakesInput before.source after.source split
  pub are : AreEvents m split.lines events
  pub ends : EndMeets m (rest_of before.source after.source) split events end
  pub prints : PrintsScript before.sink after.sink (EndMeets m (rest_of before.source after.source) split events) (m.text events) end
  -- an event's text was written before each read after its line
  pub answered : WritesBeforeReads before after (m.text events)
  pub calls : CallsTo before after (script_status end).code
