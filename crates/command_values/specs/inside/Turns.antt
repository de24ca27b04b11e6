-- Internal: what reading, answering and writing one line does, and what the lines from a moment on come to.
use Rattle.std.specs.Prelude.{◌≡◌, ◌++◌, ◌∷◌, [], ℕ, List, Bool, true, false, Some, None, Result, Ok, Err, option_map}
use Rattle.gnb_base.specs.declared.lines.Line.{Line}
use Rattle.gnb_base.specs.Lines.{line_feed, HasNoLf}
use Rattle.gnb_base.specs.Outside.{SourceAt, SinkAt}
use Rattle.gnb_base.specs.Reading.{Reading, NextMeets}
use Rattle.command_defs.specs.declared.input_defs.InputEnd.{InputEnd}
use Rattle.commands.specs.input_lines.ReadsLine.{StopsReading}
use Rattle.asn1_syntax.specs.declared.assignments.assignment.Syntax.{Syntax}
use Rattle.asn1_defs.specs.Targets.{find_type}
use Rattle.profile.specs.declared.version.Version.TheVariants.{Two}
use Rattle.commands.specs.declared.input_module.module.GivenModule.{GivenModule}
use Rattle.commands.specs.input_module.Taking.{HasModule}
use Rattle.commands.specs.command_check.Check.{IsModuleOf}
use Rattle.command_defs.specs.declared.CommonEnd.TheVariants.{WriteFault, Memory}
use Rattle.command_defs.specs.Ends.{end_of_input}
use Rattle.command_defs.specs.Outside.{OutsideAt, outside}
use Rattle.commands.specs.command_output.Writes.{WritesAll, WritesFront}
use Rattle.command_values.specs.declared.answer.Wrong.{Wrong}
use Rattle.command_values.specs.declared.end.Stop.TheVariants.{Value}
use Rattle.command_values.specs.declared.end.ValuesEnd.{ValuesEnd}
use Rattle.command_values.specs.declared.end.ValuesEnd.TheVariants.{Stopped, Common}
use Rattle.command_values.specs.declared.lines.Task.{Task}
use Rattle.command_values.specs.Answers.{IsAnswered, IsWrong}
use Rattle.command_values.specs.Values.{Job}
use Rattle.command_values.specs.inside.Stops.{RunsTo}

-- the parts of a run at one moment
pub record RunAt : Type 0 where
  pub reading : Reading
  pub source : SourceAt
  pub sink : SinkAt

abbrev pub run_at : Reading → SourceAt → SinkAt → RunAt
run_at reading source sink = record { reading = reading; source = source; sink = sink }

abbrev pub outside_of : RunAt → OutsideAt
outside_of r = outside r.source r.sink

abbrev pub with_feed : List ℕ → List ℕ
with_feed text = text ++ line_feed ∷ []

-- what a sink is once a text that waits is written
abbrev pub once_written : SinkAt → List ℕ → SinkAt
once_written sink waiting = record sink { held = option_map (λ (bytes : List ℕ). bytes ++ waiting) sink.held }

-- ---- a line

abbrev pub TaskAnswers : Task → List ℕ → List ℕ → Type 0
TaskAnswers task line text = IsAnswered task.way task.module.now task.id.number line text

abbrev pub TaskRefuses : Task → List ℕ → Wrong → Type 0
TaskRefuses task line wrong = IsWrong task.way task.module.now task.id.number line wrong

-- it was answered, and the answer written
pub record Writes (task : Task) (before after : SinkAt) (line : List ℕ) : Type 0 where
  pub text : List ℕ
  pub answers : TaskAnswers task line text
  pub all : WritesAll before after (with_feed text)

-- it is refused; or memory ran out before
pub data WriteStops (task : Task) (before after : SinkAt) (line : Line) (end : ValuesEnd) : Type 0 where
  Refused : (wrong : Wrong) → TaskRefuses task line.text wrong → end ≡ Stopped (Value line.number wrong) → after ≡ before
      → WriteStops task before after line end
  NoRoom : end ≡ Common Memory → after ≡ before → WriteStops task before after line end

abbrev pub WriteMeets : Task → SinkAt → SinkAt → Line → Result (Unit {0}) ValuesEnd → Type 0
WriteMeets task before after line (Ok done) = Writes task before after line.text
WriteMeets task before after line (Err end) = WriteStops task before after line end

-- ---- one turn

pub record TakesLine (task : Task) (old new : RunAt) : Type 0 where
  pub line : Line
  pub meets : NextMeets old.reading new.reading old.source new.source (Ok (Some line))
  pub writes : Writes task old.sink new.sink line.text

pub record TakesEnd (old new : RunAt) : Type 0 where
  pub meets : NextMeets old.reading new.reading old.source new.source (Ok None)
  pub same : new.sink ≡ old.sink

pub data TurnStops (task : Task) (old new : RunAt) (end : ValuesEnd) : Type 0 where
  Unread : (why : InputEnd) → StopsReading old.reading new.reading old.source new.source why → end ≡ Common (end_of_input why)
      → new.sink ≡ old.sink → TurnStops task old new end
  Unanswered : (line : Line) → NextMeets old.reading new.reading old.source new.source (Ok (Some line))
      → WriteStops task old.sink new.sink line end → TurnStops task old new end

abbrev pub TurnMeets : Task → RunAt → RunAt → Result Bool ValuesEnd → Type 0
TurnMeets task old new (Ok true) = TakesLine task old new
TurnMeets task old new (Ok false) = TakesEnd old new
TurnMeets task old new (Err end) = TurnStops task old new end

-- ---- the answers that wait

-- Before a line is taken they are written, and none waits then; or a whole line is kept, so that no read comes before the next answer.
pub data Waits (kept : List ℕ) (before after : SinkAt) (waiting : List ℕ × List ℕ) : Type 0 where
  Keeping : (HasNoLf kept → ⊥) → after ≡ before → waiting.1 ≡ waiting.0 → Waits kept before after waiting
  Written : WritesAll before after waiting.0 → waiting.1 ≡ [] → Waits kept before after waiting

-- they are written at an end, or a front of them where a write fails; where none waits no write is made
pub data Finishing (before after : SinkAt) (waiting : List ℕ) (end result : ValuesEnd) : Type 0 where
  Whole : WritesAll before after waiting → result ≡ end → Finishing before after waiting end result
  Cut : (waiting ≡ [] → ⊥) → WritesFront before after waiting → result ≡ Common WriteFault → Finishing before after waiting end result

-- ---- from the module on

-- since that moment the lines gave this module, and nothing was written
pub record HasGiven (first : OutsideAt) (now : RunAt) (found : GivenModule) : Type 0 where
  pub has : HasModule Two first.source now.source now.reading found
  pub same : now.sink ≡ first.sink

-- and the module has the type that the task is about
pub record Begins (job : Job) (task : Task) (first : OutsideAt) (now : RunAt) : Type 0 where
  pub found : GivenModule
  pub given : HasGiven first now found
  pub is : IsModuleOf found task.module.now
  pub has : find_type job.name task.module.now.assignments ≡ Some task.id
  pub way : task.way ≡ job.way

-- what the lines after it come to
abbrev pub Continues : Task → RunAt → RunAt → ValuesEnd → Type 0
Continues task old new end = (job : Job) (first : OutsideAt) → Begins job task first old → RunsTo job first (outside_of new) end

abbrev pub ContinuesModule : Job → Syntax → RunAt → RunAt → ValuesEnd → Type 0
ContinuesModule job m old new end =
    (first : OutsideAt) (found : GivenModule) → HasGiven first old found → IsModuleOf found m → RunsTo job first (outside_of new) end

abbrev pub ContinuesGiven : Job → GivenModule → RunAt → RunAt → ValuesEnd → Type 0
ContinuesGiven job found old new end = (first : OutsideAt) → HasGiven first old found → RunsTo job first (outside_of new) end
