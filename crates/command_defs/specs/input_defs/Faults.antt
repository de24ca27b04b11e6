-- The reads of a call: none failed, or the last one alone did.
use Rattle.std.specs.Prelude.{◌≡◌, true}
use Rattle.gnb_base.specs.Outside.{SourceAt, Rose}
use Rattle.command_defs.specs.declared.input_defs.InputEnd.{InputEnd}
use Rattle.command_defs.specs.declared.input_defs.InputEnd.TheVariants.{ReadFault, TooLong, Memory}

pub record NoReadFailed (before after : SourceAt) : Type 0 where
  pub faults : after.faults ≡ before.faults
  pub failed : after.failed ≡ true → before.failed ≡ true

-- one failed, and none was made after it
pub record LastReadFailed (before after : SourceAt) : Type 0 where
  pub faults : Rose before.faults after.faults
  pub failed : after.failed ≡ true

-- a read failed exactly where the reading ended so
abbrev pub FaultsOfEnd : SourceAt → SourceAt → InputEnd → Type 0
FaultsOfEnd before after (ReadFault taken) = LastReadFailed before after
FaultsOfEnd before after TooLong = NoReadFailed before after
FaultsOfEnd before after Memory = NoReadFailed before after
