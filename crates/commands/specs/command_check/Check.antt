-- What checking a module takes of its input, and what it comes to: the first cause in reading
-- order.
use Rattle.std.specs.Prelude.{◌≡◌, ◌+◌, ℕ, List, length, Option, Result, Ok, Err}
use Rattle.gnb_base.specs.Outside.{SourceAt}
use Rattle.command_defs.specs.declared.input_defs.InputEnd.TheVariants as inputs
use Rattle.command_defs.specs.input_defs.Split.{InputSplit, rest_of, TakesInput}
use Rattle.command_defs.specs.input_defs.Ends.{ComesNext, IsReadToEnd, IsReadFault, IsTooLong}
use Rattle.command_defs.specs.input_defs.Faults.{NoReadFailed}
use Rattle.scenario_text.specs.declared.script_words.reason.TextReason.{TextReason}
use Rattle.scenario_text.specs.declared.script_words.reason.TextReason.TheVariants.{Extra}
use Rattle.asn1_syntax.specs.declared.assignments.assignment.Syntax.{Syntax}
use Rattle.asn1_defs.specs.Targets.{type_ids}
use Rattle.profile.specs.declared.version.Version.TheVariants.{Two}
use Rattle.profile.specs.profile_module.Profiles.{IsBuiltin}
use Rattle.commands.specs.declared.input_module.module.GivenModule.{GivenModule}
use Rattle.commands.specs.declared.input_module.module.GivenModule.TheVariants as given
use Rattle.commands.specs.declared.input_module.stop.ModuleStop.{ModuleStop}
use Rattle.commands.specs.declared.input_module.stop.ModuleStop.TheVariants as stops
use Rattle.commands.specs.input_module.Module.{GivesModule, IsNoModule, IsWrongModule, IsUnfinished}
use Rattle.commands.specs.input_module.Taking.{FaultsOfStop}
use Rattle.commands.specs.declared.command_check.input.CheckedModule.{CheckedModule}

-- ---- what is reported of a module

pub record IsSummary (m : Syntax) (checked : CheckedModule) : Type 0 where
  pub name : checked.name ≡ m.name
  pub types : checked.types ≡ length (type_ids m.assignments)

-- the module of a text, or the profile of a version
abbrev pub IsModuleOf : GivenModule → Syntax → Type 0
IsModuleOf (given.Text found) m = m ≡ found
IsModuleOf (given.Builtin version) m = IsBuiltin version (record { syntax = m; version = version })

pub record Summarises (found : GivenModule) (checked : CheckedModule) : Type 0 where
  pub m : Syntax
  pub is : IsModuleOf found m
  pub summary : IsSummary m checked

-- ---- how it ends, after these lines

-- the input is a header and a module
pub record IsChecked (left : Option (List ℕ)) (split : InputSplit) (checked : CheckedModule) : Type 0 where
  pub found : GivenModule
  pub gives : GivesModule Two left split split.lines found
  pub all : IsReadToEnd left split
  pub summarises : Summarises found checked

-- a line follows after the module
pub record HasLine (left : Option (List ℕ)) (split : InputSplit) (place : ℕ) (reason : TextReason) : Type 0 where
  pub found : GivenModule
  pub line : List ℕ
  pub gives : GivesModule Two left split split.lines found
  pub next : ComesNext left split.kept line
  pub at : place ≡ length split.lines + 1
  pub extra : reason ≡ Extra

pub data IsWrongInput (left : Option (List ℕ)) (split : InputSplit) (place : ℕ) (reason : TextReason) : Type 0 where
  NotGiven : IsWrongModule Two left split place reason → IsWrongInput left split place reason
  Further : HasLine left split place reason → IsWrongInput left split place reason

-- No cause lies in these lines: the module isn't whole yet, or they give it.
pub data Passes (left : Option (List ℕ)) (split : InputSplit) : Type 0 where
  Within : IsUnfinished Two split → Passes left split
  After : (found : GivenModule) → GivesModule Two left split split.lines found → Passes left split

-- what the input is; out of memory is unspecified
abbrev pub CheckAnswers : Option (List ℕ) → InputSplit → Result CheckedModule ModuleStop → Type 0
CheckAnswers left split (Ok checked) = IsChecked left split checked
CheckAnswers left split (Err (stops.NoModule line column reason)) =
    IsNoModule Two left split line column reason
CheckAnswers left split (Err (stops.Script place reason)) = IsWrongInput left split place reason
CheckAnswers left split (Err (stops.Input (inputs.ReadFault taken))) =
    Passes left split × IsReadFault split taken
CheckAnswers left split (Err (stops.Input inputs.TooLong)) = Passes left split × IsTooLong split
CheckAnswers left split (Err (stops.Input inputs.Memory)) = Unit {0}

-- a read failed exactly where the answer is a read fault
abbrev pub FaultsOfAnswer : SourceAt → SourceAt → Result CheckedModule ModuleStop → Type 0
FaultsOfAnswer before after (Ok checked) = NoReadFailed before after
FaultsOfAnswer before after (Err stop) = FaultsOfStop before after stop

-- what was taken from the source, and what it came to
pub record ChecksInput (before after : SourceAt) (result : Result CheckedModule ModuleStop) : Type 0 where
  pub split : InputSplit
  pub input : TakesInput before after split
  pub answers : CheckAnswers (rest_of before after) split result
  pub reads : FaultsOfAnswer before after result
