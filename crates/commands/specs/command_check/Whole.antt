-- What a check does on a whole input whose bytes are reported, where no read and no write fails.
use Rattle.std.specs.Prelude.{◌≡◌, ◌≤◌, ◌⊎◌, ℕ, List, [], ◌∷◌, ◌++◌, length, Result, Ok, Err, Some, codes}
use Rattle.gnb_base.specs.Lines.{line_feed, lines_of}
use Rattle.gnb_base.specs.Outside.{SinkAt}
use Rattle.gnb_base.specs.Reading.{input_limit}
use Rattle.command_defs.specs.declared.input_defs.InputEnd.TheVariants as inputs
use Rattle.asn1_syntax.specs.declared.assignments.assignment.Syntax.{Syntax}
use Rattle.asn1_defs.specs.Targets.{type_ids}
use Rattle.profile.specs.declared.version.Version.{Version}
use Rattle.message_defs.specs.profile_defs.Profile.{module_name}
use Rattle.commands.specs.declared.input_module.stop.ModuleStop.{ModuleStop}
use Rattle.commands.specs.declared.input_module.stop.ModuleStop.TheVariants as stops
use Rattle.commands.specs.input_module.Header.{builtin_line}
use Rattle.commands.specs.input_module.Text.{IsClosed, IsUnclosed, IsOneModule}
use Rattle.command_defs.specs.declared.Status.{Status}
use Rattle.command_defs.specs.Outside.{OutsideAt, NoneFailed}
use Rattle.command_defs.specs.Output.{Prints}
use Rattle.commands.specs.declared.command_check.input.CheckedModule.{CheckedModule}
use Rattle.commands.specs.command_check.Report.{module_line}

-- the input is the header and this text, which is one module
pub record IsWholeText (input text : List ℕ) (m : Syntax) : Type 0 where
  pub within : length input ≤ input_limit
  pub parts : input ≡ codes "module text" ++ line_feed ∷ text
  pub whole : IsClosed (lines_of text) ⊎ IsUnclosed (lines_of text)
  pub is : IsOneModule text m

-- the input is the header of this version of the profile, with its LF or without
abbrev pub IsHeaderAlone : List ℕ → Version → Type 0
IsHeaderAlone input version = (input ≡ builtin_line version) ⊎ (input ≡ builtin_line version ++ line_feed ∷ [])

-- the input is whole, and its module has this name and so many types
pub data IsWhole (input name : List ℕ) (types : ℕ) : Type 0 where
  OfText : (text : List ℕ) (m : Syntax) → IsWholeText input text m → name ≡ m.name → types ≡ length (type_ids m.assignments)
      → IsWhole input name types
  OfProfile : (version : Version) → IsHeaderAlone input version → name ≡ module_name → types ≡ 53 → IsWhole input name types

-- it was found, unless memory ran out
abbrev pub FindsModule : List ℕ → ℕ → Result CheckedModule ModuleStop → Type 0
FindsModule name types (Ok checked) = (checked.name ≡ name) × (checked.types ≡ types)
FindsModule name types (Err stop) = stop ≡ stops.Input inputs.Memory

-- it was reported; or memory ran out
abbrev pub ReportsModule : SinkAt → SinkAt → List ℕ → ℕ → Status → Type 0
ReportsModule before after name types status =
    ((status.code ≡ 0) × Prints before after (module_line name types)) ⊎ (status.code ≡ 9)

abbrev pub ChecksWholly : OutsideAt → OutsideAt → Status → Type 0
ChecksWholly before after status =
    (bytes name : List ℕ) (types : ℕ) → before.source.left ≡ Some bytes → IsWhole bytes name types → NoneFailed before after
    → ReportsModule before.sink after.sink name types status
