-- The module that an input's header names, or the first cause in reading order why there is none.
use Rattle.std.specs.Prelude.{◌≡◌, ◌<◌, ◌+◌, ◌-◌, ◌⊎◌, ℕ, List, [], ◌∷◌, length, take, drop, Option, Ok, Err}
use Rattle.gnb_base.specs.Reading.{piece_size}
use Rattle.command_defs.specs.declared.input_defs.InputEnd.TheVariants as inputs
use Rattle.command_defs.specs.input_defs.Split.{InputSplit, joined}
use Rattle.command_defs.specs.input_defs.Ends.{ComesNext, IsEmptyInput, IsReadToEnd, IsReadFault, IsTooLong}
use Rattle.scenario_text.specs.declared.script_words.reason.TextReason.{TextReason}
use Rattle.scenario_text.specs.declared.script_words.reason.TextReason.TheVariants.{Word, Extra}
use Rattle.asn1_syntax.specs.declared.types.fault.ModuleReason.{ModuleReason}
use Rattle.asn1_syntax.specs.declared.assignments.assignment.Syntax.{Syntax}
use Rattle.asn1_defs.specs.Readings.{Reads, WrongText}
use Rattle.profile.specs.declared.version.Version.{Version}
use Rattle.commands.specs.declared.input_module.header.ModuleHeader.TheVariants.{Text, Builtin}
use Rattle.commands.specs.declared.input_module.module.GivenModule.{GivenModule}
use Rattle.commands.specs.declared.input_module.module.GivenModule.TheVariants as given
use Rattle.commands.specs.declared.input_module.stop.ModuleStop.{ModuleStop}
use Rattle.commands.specs.declared.input_module.stop.ModuleStop.TheVariants as stops
use Rattle.commands.specs.input_module.Header.{header_of}
use Rattle.commands.specs.input_module.Text.{IsUnclosed, IsClosed, IsOneModule, IsBlank}

-- these lines of the input are all that it has, and none after the first is `END`
pub record IsUpToEnd (left : Option (List ℕ)) (split : InputSplit) (lines body : List (List ℕ)) : Type 0 where
  pub others : IsUnclosed body
  pub alone : split.lines ≡ lines
  pub all : IsReadToEnd left split

-- These lines at the front of the input are the header `module text` and those of a text, up to and with the first line `END` or to the
-- input's end. The text is these lines, each with its LF, as far as they were taken: at the input's end the last LF may be missing.
pub record HasText (newest : Version) (left : Option (List ℕ)) (split : InputSplit) (lines : List (List ℕ)) (text : List ℕ) : Type 0 where
  pub header : List ℕ
  pub body : List (List ℕ)
  pub parts : lines ≡ header ∷ body
  pub is_header : header_of newest header ≡ Ok Text
  pub whole : IsClosed body ⊎ IsUpToEnd left split lines body
  pub octets : text ≡ take (length split.taken - (length header + 1)) (joined body)

-- and the text is this module
pub record HasModuleText (newest : Version) (left : Option (List ℕ)) (split : InputSplit) (lines : List (List ℕ)) (m : Syntax) : Type 0 where
  pub text : List ℕ
  pub has : HasText newest left split lines text
  pub is : IsOneModule text m

-- this line is the header of a version of the profile
pub record NamesProfile (newest : Version) (lines : List (List ℕ)) (version : Version) : Type 0 where
  pub header : List ℕ
  pub parts : lines ≡ header ∷ []
  pub is_header : header_of newest header ≡ Ok (Builtin version)

-- these lines at the front of the input give this module
abbrev pub GivesModule : (newest : Version) → Option (List ℕ) → InputSplit → List (List ℕ) → GivenModule → Type 0
GivesModule newest left split lines (given.Text m) = HasModuleText newest left split lines m
GivesModule newest left split lines (given.Builtin version) = NamesProfile newest lines version

-- ---- why there is none, after these lines

-- the text is no module; its first line is line 2 of the input
pub record IsNoModule (newest : Version) (left : Option (List ℕ)) (split : InputSplit) (line column : ℕ) (reason : ModuleReason) : Type 0 where
  pub text : List ℕ
  pub line_of_text : ℕ
  pub has : HasText newest left split split.lines text
  pub wrong : WrongText text line_of_text column reason
  pub at : line ≡ line_of_text + 1

-- the first line is another one
pub record IsWrongHeader (newest : Version) (left : Option (List ℕ)) (split : InputSplit) (place : ℕ) (reason : TextReason) : Type 0 where
  pub line : List ℕ
  pub none : split.lines ≡ []
  pub next : ComesNext left split.kept line
  pub wrong : header_of newest line ≡ Err reason
  pub at : place ≡ 1

-- the text goes on after its module: reported at the text's last line, after which fewer bytes are
-- kept than one read asks for
pub record GoesOn (newest : Version) (left : Option (List ℕ)) (split : InputSplit) (place : ℕ) (reason : TextReason) : Type 0 where
  pub text : List ℕ
  pub octets : ℕ
  pub m : Syntax
  pub has : HasText newest left split split.lines text
  pub reads : Reads text octets m
  pub more : IsBlank (drop octets text) → ⊥
  pub at : place ≡ length split.lines
  pub few : length split.kept < piece_size
  pub extra : reason ≡ Extra

pub data IsWrongModule (newest : Version) (left : Option (List ℕ)) (split : InputSplit) (place : ℕ) (reason : TextReason) : Type 0 where
  Empty : IsEmptyInput left split place → reason ≡ Word → IsWrongModule newest left split place reason
  NoHeader : IsWrongHeader newest left split place reason → IsWrongModule newest left split place reason
  Unended : GoesOn newest left split place reason → IsWrongModule newest left split place reason

-- No cause lies in these lines, and the module isn't whole: there are none; or they are a header and lines of a text that has not ended.
pub data IsUnfinished (newest : Version) (split : InputSplit) : Type 0 where
  AtHeader : split.lines ≡ [] → IsUnfinished newest split
  InText : (header : List ℕ) (body : List (List ℕ)) → split.lines ≡ header ∷ body → header_of newest header ≡ Ok Text → IsUnclosed body
      → IsUnfinished newest split

-- these lines are no more than a header and a text: the text hasn't ended, or it was taken whole
pub data IsPart (newest : Version) (left : Option (List ℕ)) (split : InputSplit) : Type 0 where
  Unfinished : IsUnfinished newest split → IsPart newest left split
  Whole : (text : List ℕ) → HasText newest left split split.lines text → IsPart newest left split

-- memory may run out at any part of it
abbrev pub StopsModule : (newest : Version) → Option (List ℕ) → InputSplit → ModuleStop → Type 0
StopsModule newest left split (stops.NoModule line column reason) = IsNoModule newest left split line column reason
StopsModule newest left split (stops.Script place reason) = IsWrongModule newest left split place reason
StopsModule newest left split (stops.Input (inputs.ReadFault taken)) = IsUnfinished newest split × IsReadFault split taken
StopsModule newest left split (stops.Input inputs.TooLong) = IsUnfinished newest split × IsTooLong split
StopsModule newest left split (stops.Input inputs.Memory) = IsPart newest left split
