-- The ends that each word has: what the input is, and with other words than a form's.
use Rattle.std.specs.Prelude.{◌≡◌, ℕ, List, [], ◌∷◌, Some}
use Rattle.gnb_base.specs.Outside.{SourceAt, SinkAt}
use Rattle.command_defs.specs.declared.input_defs.InputEnd.{InputEnd}
use Rattle.command_defs.specs.declared.input_defs.InputEnd.TheVariants as inputs
use Rattle.command_defs.specs.input_defs.Split.{InputSplit}
use Rattle.command_defs.specs.input_defs.Ends.{IsReadFault, IsTooLong}
use Rattle.command_defs.specs.input_defs.Near.{StopsNear}
use Rattle.scenario_text.specs.Print.{print}
use Rattle.command_defs.specs.declared.CommonEnd.{CommonEnd}
use Rattle.command_defs.specs.declared.CommonEnd.TheVariants.{ReadFault, TooLong, WriteFault, Memory}
use Rattle.command_defs.specs.declared.Status.{Status}
use Rattle.command_defs.specs.Outside.{OutsideAt, NoWriteFailed, LastWriteFailed}
use Rattle.command_defs.specs.Output.{Prints, PrintsFront}
use Rattle.command_defs.specs.Statuses.{usage_status, common_status, stop_line}

-- the end of a word whose input ended so
abbrev pub end_of_input : InputEnd → CommonEnd
end_of_input (inputs.ReadFault taken) = ReadFault taken
end_of_input inputs.TooLong = TooLong
end_of_input inputs.Memory = Memory

-- what the input is; a write may fail and memory run out anywhere
abbrev pub CommonEndMeets : InputSplit → CommonEnd → Type 0
CommonEndMeets split (ReadFault taken) = IsReadFault split taken
CommonEndMeets split TooLong = IsTooLong split
CommonEndMeets split WriteFault = Unit {0}
CommonEndMeets split Memory = Unit {0}

-- At a stop at a line, of a source that reported its bytes fewer were taken past the line's end
-- than one read asks for.
abbrev pub StopsAtLine : SourceAt → SourceAt → Status → Type 0
StopsAtLine before after status =
    (bytes : List ℕ) → before.left ≡ Some bytes → status.code ≡ 4
    → StopsNear bytes after.left status.place

-- With words that are no form nothing is read. The `stop` line was written; or a front of it, where
-- a write failed; or nothing, out of memory.
pub data UsagePrints (before after : SinkAt) (status : Status) : Type 0 where
  Written : status ≡ usage_status → Prints before after (print (stop_line usage_status ∷ []))
      → NoWriteFailed before after
      → UsagePrints before after status
  Cut : status ≡ common_status WriteFault
      → PrintsFront before after (print (stop_line usage_status ∷ []))
      → LastWriteFailed before after → UsagePrints before after status
  Unwritten : status ≡ common_status Memory → after ≡ before → UsagePrints before after status

pub record UsageMeets (before after : OutsideAt) (status : Status) : Type 0 where
  pub unread : after.source ≡ before.source
  pub prints : UsagePrints before.sink after.sink status
