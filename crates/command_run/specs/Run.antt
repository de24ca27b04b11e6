-- What the word `run` does over units of any meaning, for every input, every list of failing calls, and every end.
use Rattle.std.specs.Prelude.{◌≡◌, ◌+◌, ◌<◌, ◌⊎◌, ℕ, false, List, [], ◌∷◌, ◌++◌, map, length, Option, Some, None, Result, Ok, Err, IfSome, if◌then◌else◌}
use Rattle.std.specs.List.{flat_map}
use Rattle.gnb_base.specs.Outside.{SinkAt}
use Rattle.command_defs.specs.input_defs.Split.{InputSplit, rest_of, TakesInput}
use Rattle.command_defs.specs.input_defs.Ends.{ComesNext, IsReadToEnd, IsReadFault, IsTooLong}
use Rattle.asn1_syntax.specs.declared.assignments.assignment.Syntax.{Syntax}
use Rattle.profile.specs.declared.version.Version.TheVariants.{One}
use Rattle.message_defs.specs.profile_defs.Profile.{profile_types}
use Rattle.message_defs.specs.profile_defs.Agreement.{differs, Agrees}
use Rattle.commands.specs.declared.input_module.module.GivenModule.{GivenModule}
use Rattle.commands.specs.declared.input_module.module.GivenModule.TheVariants as given
use Rattle.commands.specs.input_module.Module.{GivesModule, IsNoModule, IsWrongModule, IsUnfinished, IsPart}
use Rattle.scenario_text.specs.declared.event.Event.{Event}
use Rattle.scenario_text.specs.declared.script_words.reason.TextReason.{TextReason}
use Rattle.scenario_text.specs.Grammar.{is_skipped, event_of}
use Rattle.scenario_text.specs.Print.{print}
use Rattle.unit_defs.specs.octet_defs.Codec.{Codec}
use Rattle.run_defs.specs.States.{Stop, outstanding, spent_counter}
use Rattle.run_defs.specs.Runs.{Happened, Transcript, lines_of}
use Rattle.run_defs.specs.Printing.{out_lines}
use Rattle.run_defs.specs.UnitRuns.{Meaning, UnitRun}
use Rattle.scenario_text.specs.declared.line.OutLine.TheVariants as lines
use Rattle.gnb_base.specs.Reading.{piece_size}
use Rattle.command_defs.specs.declared.CommonEnd.TheVariants.{ReadFault, TooLong, WriteFault, Memory}
use Rattle.command_defs.specs.Outside.{OutsideAt, CallsTo}
use Rattle.command_defs.specs.Output.{Prints, PrintsFront, WritesBeforeReads}
use Rattle.command_run.specs.declared.end.RunEnd.{RunEnd}
use Rattle.command_run.specs.declared.end.RunEnd.TheVariants.{Done, NoModule, Differs, Script, Outstanding, Spent, Common}
use Rattle.command_run.specs.Ends.{run_status, end_text}

-- ---- the input

-- what a line after the module means: nothing where it is skipped
abbrev pub meanings : List ℕ → List (Result Event TextReason)
meanings line = if is_skipped line then [] else event_of line ∷ []

-- the lines are these events and skipped lines
abbrev pub AreEvents : List (List ℕ) → List Event → Type 0
AreEvents lines events = flat_map meanings lines ≡ map (λ event. Ok event) events

-- the module is version 1 of the profile
abbrev pub IsProfile : GivenModule → Type 0
IsProfile (given.Text m) = Agrees (profile_types 1) m
IsProfile (given.Builtin version) = Unit {0}

-- the lines are a header with the profile that it gives, and then these events and skipped lines
pub record IsScript (left : Option (List ℕ)) (split : InputSplit) (events : List Event) : Type 0 where
  pub front : List (List ℕ)
  pub lines : List (List ℕ)
  pub found : GivenModule
  pub parts : split.lines ≡ front ++ lines
  pub gives : GivesModule One left split front found
  pub profile : IsProfile found
  pub are : AreEvents lines events

-- or they are no more than a header and a text, and no event was read
abbrev pub AreScript : Option (List ℕ) → InputSplit → List Event → Type 0
AreScript left split events = IsScript left split events ⊎ ((events ≡ []) × IsPart One left split)

-- ---- the run

-- how the units answer, and the codec of their control messages
pub record Setting : Type 0 where
  pub codec : Codec
  pub answer : Meaning

abbrev pub setting_of : Codec → Meaning → Setting
setting_of codec answer = record { codec = codec; answer = answer }

-- the run of these events
abbrev pub run_of : Setting → List Event → Transcript (List ℕ)
run_of setting events = UnitRun setting.codec setting.answer events

abbrev pub GoesOn : Setting → List Event → Type 0
GoesOn setting events = (run_of setting events).stop ≡ None

-- ---- how it ends, after the lines that were handed out

-- the text is a module, and not the profile's: this is the first name by which it differs
pub record IsOther (left : Option (List ℕ)) (split : InputSplit) (name : List ℕ) : Type 0 where
  pub m : Syntax
  pub gives : GivesModule One left split split.lines (given.Text m)
  pub differs : differs (profile_types 1) m ≡ Some name

-- the next line is no event, and not skipped
pub record IsWrongLine (left : Option (List ℕ)) (split : InputSplit) (events : List Event) (place : ℕ) (reason : TextReason) : Type 0 where
  pub before : IsScript left split events
  pub line : List ℕ
  pub next : ComesNext left split.kept line
  pub at : place ≡ length split.lines + 1
  pub skip : is_skipped line ≡ false
  pub wrong : event_of line ≡ Err reason

-- the input was read to its end, and every line was applied
pub record IsDone (left : Option (List ℕ)) (split : InputSplit) (events : List Event) (count : ℕ) : Type 0 where
  pub script : IsScript left split events
  pub all : IsReadToEnd left split
  pub counted : count ≡ length events

-- the run stops so in the event of the last line, at this place, and in none before it
pub record StopsInLast (setting : Setting) (left : Option (List ℕ)) (split : InputSplit) (events : List Event) (place : ℕ) (why : Stop)
    : Type 0 where
  pub script : IsScript left split events
  pub earlier : List Event
  pub last : Event
  pub lines : List (List ℕ)
  pub line : List ℕ
  pub parts : events ≡ earlier ++ last ∷ []
  pub line_parts : split.lines ≡ lines ++ line ∷ []
  pub means : meanings line ≡ Ok last ∷ []
  pub goes : GoesOn setting earlier
  pub stops : (run_of setting events).stop ≡ Some why
  pub at : place ≡ length split.lines
  -- after this line fewer bytes were taken than one read asks for
  pub few : length split.kept < piece_size

-- no cause lies in the lines
abbrev pub Passes : Option (List ℕ) → InputSplit → List Event → Type 0
Passes left split events = IsUnfinished One split ⊎ IsScript left split events

abbrev pub RunEndMeets : Setting → Option (List ℕ) → InputSplit → List Event → RunEnd → Type 0
RunEndMeets setting left split events (Done count) = GoesOn setting events × IsDone left split events count
RunEndMeets setting left split events (NoModule line column reason) = (events ≡ []) × IsNoModule One left split line column reason
RunEndMeets setting left split events (Differs name) = (events ≡ []) × IsOther left split name
RunEndMeets setting left split events (Script place reason) =
    ((events ≡ []) × IsWrongModule One left split place reason) ⊎ (GoesOn setting events × IsWrongLine left split events place reason)
RunEndMeets setting left split events (Outstanding place o) =
    StopsInLast setting left split events place (outstanding o.key o.span o.window)
RunEndMeets setting left split events (Spent place counter) = StopsInLast setting left split events place (spent_counter counter)
RunEndMeets setting left split events (Common (ReadFault taken)) =
    GoesOn setting events × Passes left split events × IsReadFault split taken
RunEndMeets setting left split events (Common TooLong) = GoesOn setting events × Passes left split events × IsTooLong split
RunEndMeets setting left split events (Common WriteFault) = Unit {0}
RunEndMeets setting left split events (Common Memory) = Unit {0}

-- ---- the output

-- an event's own line, and the lines that it prints
abbrev pub happened_text : Happened (List ℕ) → List ℕ
happened_text h = print (lines.Happens h.event ∷ out_lines (λ octets. octets) (lines_of h))

-- the text of the run of these events
abbrev pub run_text : Setting → List Event → List ℕ
run_text setting events = flat_map happened_text (run_of setting events).events

-- and what is written at the end, if that is known
abbrev pub text_to : List ℕ → Option RunEnd → List ℕ
text_to text None = text
text_to text (Some end) = text ++ end_text end

-- At the end of a run its text and what is written at the end were written. A write that fails leaves a front of
-- the text, up to the end that the run had come to; out of memory a front of the run's text.
abbrev pub PrintsRun : SinkAt → SinkAt → (RunEnd → Type 0) → List ℕ → RunEnd → Type 0
PrintsRun before after Meets text (Common WriteFault) =
    (other : Option RunEnd) × IfSome other Meets × PrintsFront before after (text_to text other)
PrintsRun before after Meets text (Common Memory) = PrintsFront before after text
PrintsRun before after Meets text end = Prints before after (text_to text (Some end))

-- what was taken from the source, the events of its lines, how it ended, what was written, and
-- where a call failed
pub record RunMeets (setting : Setting) (before after : OutsideAt) (end : RunEnd) : Type 0 where
  pub split : InputSplit
  pub events : List Event
  pub input : TakesInput before.source after.source split
  pub script : AreScript (rest_of before.source after.source) split events
  pub ends : RunEndMeets setting (rest_of before.source after.source) split events end
  pub prints : PrintsRun before.sink after.sink (RunEndMeets setting (rest_of before.source after.source) split events) (run_text setting events) end
  -- an event's text was written before each read after its line
  pub answered : WritesBeforeReads before after (run_text setting events)
  pub calls : CallsTo before after (run_status end).code
