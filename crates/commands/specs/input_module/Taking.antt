-- Taking the module of an input: what was taken of the source, and where a read failed.
use Rattle.std.specs.Prelude.{◌≡◌, ◌++◌, List, ℕ, Option, Result, Ok, Err}
use Rattle.gnb_base.specs.declared.lines.ReadPhase.TheVariants.{Going}
use Rattle.gnb_base.specs.Outside.{SourceAt}
use Rattle.gnb_base.specs.Reading.{Reading}
use Rattle.command_defs.specs.input_defs.Faults.{NoReadFailed, FaultsOfEnd}
use Rattle.command_defs.specs.input_defs.Split.{InputSplit, rest_of, TakesInput}
use Rattle.command_defs.specs.input_defs.Standing.{StandsAfter, split_of}
use Rattle.profile.specs.declared.version.Version.{Version}
use Rattle.commands.specs.declared.input_module.module.GivenModule.{GivenModule}
use Rattle.commands.specs.declared.input_module.stop.ModuleStop.{ModuleStop}
use Rattle.commands.specs.declared.input_module.stop.ModuleStop.TheVariants.{NoModule, Script, Input}
use Rattle.commands.specs.input_module.Module.{GivesModule, StopsModule}

-- a read failed exactly where the stop is a read fault
abbrev pub FaultsOfStop : SourceAt → SourceAt → ModuleStop → Type 0
FaultsOfStop before after (NoModule line column reason) = NoReadFailed before after
FaultsOfStop before after (Script place reason) = NoReadFailed before after
FaultsOfStop before after (Input end) = FaultsOfEnd before after end

-- what was taken, and why it gives no module
pub record StopsTaking (newest : Version) (before after : SourceAt) (stop : ModuleStop) : Type 0 where
  pub split : InputSplit
  pub input : TakesInput before after split
  pub stops : StopsModule newest (rest_of before after) split stop
  pub reads : FaultsOfStop before after stop

-- whatever is taken after these lines while the input goes on, they give this module
abbrev pub StillGives : (newest : Version) → Reading → List ℕ → List (List ℕ) → GivenModule → Type 0
StillGives newest reading taken lines found =
    reading.phase ≡ Going → (left : Option (List ℕ)) (split : InputSplit) (more : List ℕ) → split.taken ≡ taken ++ more
    → GivesModule newest left split lines found

-- the lines that the reader handed out give this module
pub record HasModule (newest : Version) (before after : SourceAt) (reading : Reading) (found : GivenModule) : Type 0 where
  pub taken : List ℕ
  pub lines : List (List ℕ)
  pub stands : StandsAfter before after reading taken lines
  pub gives : GivesModule newest (rest_of before after) (split_of reading taken lines) lines found
  pub later : StillGives newest reading taken lines found

abbrev pub TakesModule : (newest : Version) → SourceAt → SourceAt → Reading → Result GivenModule ModuleStop → Type 0
TakesModule newest before after reading (Ok found) = HasModule newest before after reading found
TakesModule newest before after reading (Err stop) = StopsTaking newest before after stop
