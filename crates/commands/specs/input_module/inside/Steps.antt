-- Internal: what each step of taking a module does.
use Rattle.std.specs.Prelude.{◌≡◌, ◌+◌, ◌⊎◌, ℕ, List, [], ◌∷◌, ◌++◌, length, drop, Option, Some, None, Result, Ok, Err}
use Rattle.gnb_base.specs.declared.lines.Line.{Line}
use Rattle.gnb_base.specs.declared.lines.ReadPhase.TheVariants.{Ended}
use Rattle.gnb_base.specs.Lines.{line_feed}
use Rattle.gnb_base.specs.Outside.{SourceAt}
use Rattle.gnb_base.specs.Reading.{Reading, NextMeets}
use Rattle.command_defs.specs.declared.input_defs.InputEnd.{InputEnd}
use Rattle.command_defs.specs.declared.input_defs.InputEnd.TheVariants as inputs
use Rattle.command_defs.specs.input_defs.Split.{joined}
use Rattle.command_defs.specs.input_defs.Standing.{StandsAfter}
use Rattle.commands.specs.input_lines.ReadsLine.{StopsReading}
use Rattle.scenario_text.specs.declared.script_words.reason.TextReason.TheVariants.{Word, Extra}
use Rattle.asn1_syntax.specs.declared.types.fault.ModuleReason.{ModuleReason}
use Rattle.asn1_syntax.specs.declared.assignments.assignment.Syntax.{Syntax}
use Rattle.asn1_defs.specs.Readings.{Reads, WrongText}
use Rattle.profile.specs.declared.version.Version.{Version}
use Rattle.commands.specs.declared.input_module.header.ModuleHeader.TheVariants as headers
use Rattle.commands.specs.declared.input_module.stop.ModuleStop.{ModuleStop}
use Rattle.commands.specs.declared.input_module.stop.ModuleStop.TheVariants.{NoModule, Script, Input}
use Rattle.commands.specs.declared.input_module.text.FirstLine.{FirstLine}
use Rattle.commands.specs.declared.input_module.text.Gathered.{Gathered}
use Rattle.commands.specs.declared.input_module.text.Taken.{Taken}
use Rattle.commands.specs.declared.input_module.text.Taken.TheVariants as takes
use Rattle.commands.specs.input_module.Header.{header_of}
use Rattle.commands.specs.input_module.Text.{IsUnclosed, IsClosed, IsOneModule, IsBlank}
use Rattle.commands.specs.input_module.Taking.{StopsTaking}

-- ---- the header

pub record HasHeader (newest : Version) (old new : Reading) (before after : SourceAt) (first : FirstLine) : Type 0 where
  pub line : Line
  pub meets : NextMeets old new before after (Ok (Some line))
  pub header : header_of newest line.text ≡ Ok first.header
  pub size-is : first.octets ≡ length line.text

-- no line, or another one, is there
pub data HeaderStops (newest : Version) (old new : Reading) (before after : SourceAt) (stop : ModuleStop) : Type 0 where
  HeaderUnread : (why : InputEnd) → StopsReading old new before after why → stop ≡ Input why → HeaderStops newest old new before after stop
  NoLine : NextMeets old new before after (Ok None) → stop ≡ Script 1 Word → HeaderStops newest old new before after stop
  WrongLine : (line : Line) (reason : _) → NextMeets old new before after (Ok (Some line)) → header_of newest line.text ≡ Err reason
      → stop ≡ Script 1 reason
      → HeaderStops newest old new before after stop

abbrev pub HeaderMeets : (newest : Version) → Reading → Reading → SourceAt → SourceAt → Result FirstLine ModuleStop → Type 0
HeaderMeets newest old new before after (Ok first) = HasHeader newest old new before after first
HeaderMeets newest old new before after (Err stop) = HeaderStops newest old new before after stop

-- ---- the text

-- the reader, its source and the octets gathered, at one moment
pub record TextAt : Type 0 where
  pub reading : Reading
  pub source : SourceAt
  pub octets : List ℕ

abbrev pub text_at : Reading → SourceAt → List ℕ → TextAt
text_at reading source octets = record { reading = reading; source = source; octets = octets }

-- a line was put after the others
pub record TakesLine (old new : TextAt) (line : Line) : Type 0 where
  pub meets : NextMeets old.reading new.reading old.source new.source (Ok (Some line))
  pub octets : new.octets ≡ old.octets ++ (line.text ++ line_feed ∷ [])

pub record TakesNone (old new : TextAt) : Type 0 where
  pub meets : NextMeets old.reading new.reading old.source new.source (Ok None)
  pub octets : new.octets ≡ old.octets

pub data TurnStops (old new : TextAt) (stop : ModuleStop) : Type 0 where
  Unread : (why : InputEnd) → StopsReading old.reading new.reading old.source new.source why → stop ≡ Input why → TurnStops old new stop
  NoRoom : (line : Line) → NextMeets old.reading new.reading old.source new.source (Ok (Some line)) → stop ≡ Input inputs.Memory
      → TurnStops old new stop

abbrev pub TurnMeets : TextAt → TextAt → Result (Option Line) ModuleStop → Type 0
TurnMeets old new (Ok (Some line)) = TakesLine old new line
TurnMeets old new (Ok None) = TakesNone old new
TurnMeets old new (Err stop) = TurnStops old new stop

-- the header and the lines of the text were taken, up to its end or to that of the input
pub record TakesText (newest : Version) (before after : SourceAt) (reading : Reading) (gathered : Gathered) : Type 0 where
  pub taken : List ℕ
  pub header : List ℕ
  pub body : List (List ℕ)
  pub stands : StandsAfter before after reading taken (header ∷ body)
  pub is_header : header_of newest header ≡ Ok headers.Text
  pub whole : IsClosed body ⊎ (IsUnclosed body × (reading.phase ≡ Ended))
  pub size : gathered.header ≡ length header
  pub octets : gathered.octets ≡ joined body
  pub last : gathered.last ≡ length body + 1

-- or the header of a version of the profile
pub record TakesProfile (newest : Version) (before after : SourceAt) (reading : Reading) (version : Version) : Type 0 where
  pub taken : List ℕ
  pub header : List ℕ
  pub stands : StandsAfter before after reading taken (header ∷ [])
  pub is_header : header_of newest header ≡ Ok (headers.Builtin version)

abbrev pub TakenMeets : (newest : Version) → SourceAt → SourceAt → Reading → Result Taken ModuleStop → Type 0
TakenMeets newest before after reading (Ok (takes.Text gathered)) = TakesText newest before after reading gathered
TakenMeets newest before after reading (Ok (takes.Builtin version)) = TakesProfile newest before after reading version
TakenMeets newest before after reading (Err stop) = StopsTaking newest before after stop

-- ---- the module

-- a text of which a module stands at the front, or why none does
pub record IsRefused (text : List ℕ) (line column : ℕ) (reason : ModuleReason) : Type 0 where
  pub line_of_text : ℕ
  pub wrong : WrongText text line_of_text column reason
  pub at : line ≡ line_of_text + 1

abbrev pub ReadsFront : List ℕ → Result (Syntax × ℕ) ModuleStop → Type 0
ReadsFront text (Ok read) = Reads text read.1 read.0
ReadsFront text (Err (NoModule line column reason)) = IsRefused text line column reason
ReadsFront text (Err (Input inputs.Memory)) = Unit {0}
ReadsFront text (Err (Script place reason)) = ⊥
ReadsFront text (Err (Input (inputs.ReadFault taken))) = ⊥
ReadsFront text (Err (Input inputs.TooLong)) = ⊥

pub record HasMore (text : List ℕ) (last place : ℕ) (reason : _) : Type 0 where
  pub m : Syntax
  pub octets : ℕ
  pub reads : Reads text octets m
  pub more : IsBlank (drop octets text) → ⊥
  pub at : place ≡ last
  pub extra : reason ≡ Extra

abbrev pub AloneMeets : List ℕ → ℕ → Result Syntax ModuleStop → Type 0
AloneMeets text last (Ok m) = IsOneModule text m
AloneMeets text last (Err (NoModule line column reason)) = IsRefused text line column reason
AloneMeets text last (Err (Script place reason)) = HasMore text last place reason
AloneMeets text last (Err (Input inputs.Memory)) = Unit {0}
AloneMeets text last (Err (Input (inputs.ReadFault taken))) = ⊥
AloneMeets text last (Err (Input inputs.TooLong)) = ⊥
