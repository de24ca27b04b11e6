-- What the words `encode` and `decode` do, for every input, every list of failing calls, and every end.
use Rattle.std.specs.Prelude.{◌≡◌, ◌+◌, ◌⊎◌, ℕ, List, [], ◌++◌, length, Option, Some, None, IfSome}
use Rattle.gnb_base.specs.Outside.{SinkAt}
use Rattle.command_defs.specs.input_defs.Split.{InputSplit, rest_of, joined, TakesInput}
use Rattle.command_defs.specs.input_defs.Ends.{ComesNext, IsReadToEnd, IsReadFault, IsTooLong}
use Rattle.asn1_syntax.specs.declared.types.definition.TypeId.{TypeId}
use Rattle.asn1_syntax.specs.declared.assignments.assignment.Syntax.{Syntax}
use Rattle.asn1_defs.specs.Targets.{find_type}
use Rattle.profile.specs.declared.version.Version.TheVariants.{Two}
use Rattle.commands.specs.declared.input_module.module.GivenModule.{GivenModule}
use Rattle.commands.specs.input_module.Module.{GivesModule, IsNoModule, IsWrongModule, IsUnfinished, IsPart}
use Rattle.commands.specs.command_check.Check.{IsModuleOf}
use Rattle.command_defs.specs.declared.CommonEnd.TheVariants.{ReadFault, TooLong, WriteFault, Memory}
use Rattle.command_defs.specs.Outside.{OutsideAt, CallsTo}
use Rattle.command_defs.specs.Output.{Prints, PrintsFront, WritesBeforeReads}
use Rattle.command_values.specs.declared.way.Way.{Way}
use Rattle.command_values.specs.declared.answer.Wrong.{Wrong}
use Rattle.command_values.specs.declared.end.Stop.TheVariants.{NoModule, NoType, Script, Value}
use Rattle.command_values.specs.declared.end.ValuesEnd.{ValuesEnd}
use Rattle.command_values.specs.declared.end.ValuesEnd.TheVariants.{Done, Stopped, Common}
use Rattle.command_values.specs.Answers.{IsWrong, AreAnswered}
use Rattle.command_values.specs.Ends.{values_status, end_text}

-- the word, and the name of the type after it
pub record Job : Type 0 where
  pub way : Way
  pub name : List ℕ

abbrev pub job_of : Way → List ℕ → Job
job_of way name = record { way = way; name = name }

-- ---- the input

-- the lines are a header with the module that it gives, which has a type of this name, and then lines with these answers
pub record HasValues (job : Job) (left : Option (List ℕ)) (split : InputSplit) (texts : List (List ℕ)) : Type 0 where
  pub front : List (List ℕ)
  pub lines : List (List ℕ)
  pub found : GivenModule
  pub m : Syntax
  pub id : TypeId
  pub parts : split.lines ≡ front ++ lines
  pub gives : GivesModule Two left split front found
  pub is : IsModuleOf found m
  pub has : find_type job.name m.assignments ≡ Some id
  pub are : AreAnswered job.way m id.number lines texts

-- they are no more than a header and a text, or they give a module
pub data IsFront (left : Option (List ℕ)) (split : InputSplit) : Type 0 where
  Part : IsPart Two left split → IsFront left split
  Given : (found : GivenModule) → GivesModule Two left split split.lines found → IsFront left split

-- the answers are of the lines after the module, or there are none
abbrev pub AreValues : Job → Option (List ℕ) → InputSplit → List (List ℕ) → Type 0
AreValues job left split texts = HasValues job left split texts ⊎ ((texts ≡ []) × IsFront left split)

-- ---- how it ends, after the lines that were answered

-- the module has no type of this name
pub record IsUntyped (job : Job) (left : Option (List ℕ)) (split : InputSplit) : Type 0 where
  pub found : GivenModule
  pub m : Syntax
  pub gives : GivesModule Two left split split.lines found
  pub is : IsModuleOf found m
  pub none : find_type job.name m.assignments ≡ None

-- the next line is refused
pub record IsWrongLine (job : Job) (left : Option (List ℕ)) (split : InputSplit) (texts : List (List ℕ)) (stop : ℕ × Wrong) : Type 0 where
  pub before : HasValues job left split texts
  pub line : List ℕ
  pub next : ComesNext left split.kept line
  pub at : stop.0 ≡ length split.lines + 1
  pub wrong : IsWrong job.way before.m before.id.number line stop.1

-- no cause lies in the lines
abbrev pub Passes : Job → Option (List ℕ) → InputSplit → List (List ℕ) → Type 0
Passes job left split texts = IsUnfinished Two split ⊎ HasValues job left split texts

abbrev pub ValuesEndMeets : Job → Option (List ℕ) → InputSplit → List (List ℕ) → ValuesEnd → Type 0
ValuesEndMeets job left split texts Done = HasValues job left split texts × IsReadToEnd left split
ValuesEndMeets job left split texts (Stopped (NoModule line column reason)) =
    (texts ≡ []) × IsNoModule Two left split line column reason
ValuesEndMeets job left split texts (Stopped NoType) = (texts ≡ []) × IsUntyped job left split
ValuesEndMeets job left split texts (Stopped (Script place reason)) = (texts ≡ []) × IsWrongModule Two left split place reason
ValuesEndMeets job left split texts (Stopped (Value place wrong)) = IsWrongLine job left split texts (place, wrong)
ValuesEndMeets job left split texts (Common (ReadFault taken)) = Passes job left split texts × IsReadFault split taken
ValuesEndMeets job left split texts (Common TooLong) = Passes job left split texts × IsTooLong split
ValuesEndMeets job left split texts (Common WriteFault) = Unit {0}
ValuesEndMeets job left split texts (Common Memory) = Unit {0}

-- ---- the output

-- the answers, each with its LF, and what is written at the end, if that is known
abbrev pub text_to : List (List ℕ) → Option ValuesEnd → List ℕ
text_to texts None = joined texts
text_to texts (Some end) = joined texts ++ end_text end

-- At the end the answers and what is written then were written. A write that fails leaves a front of the text, up to the end that was
-- come to; out of memory a front of the answers.
abbrev pub PrintsValues : SinkAt → SinkAt → (ValuesEnd → Type 0) → List (List ℕ) → ValuesEnd → Type 0
PrintsValues before after Meets texts (Common WriteFault) =
    (other : Option ValuesEnd) × IfSome other Meets × PrintsFront before after (text_to texts other)
PrintsValues before after Meets texts (Common Memory) = PrintsFront before after (joined texts)
PrintsValues before after Meets texts end = Prints before after (text_to texts (Some end))

-- what was taken from the source, the answers of its lines, how it ended, what was written, and where a call failed
pub record ValuesMeet (job : Job) (before after : OutsideAt) (end : ValuesEnd) : Type 0 where
  pub split : InputSplit
  pub texts : List (List ℕ)
  pub input : TakesInput before.source after.source split
  pub values : AreValues job (rest_of before.source after.source) split texts
  pub ends : ValuesEndMeets job (rest_of before.source after.source) split texts end
  pub prints : PrintsValues before.sink after.sink (ValuesEndMeets job (rest_of before.source after.source) split texts) texts end
  -- an answer was written before each read after its line
  pub answered : WritesBeforeReads before after (joined texts)
  pub calls : CallsTo before after (values_status end).code
