-- What a run does on a whole script whose bytes are reported, where no read and no write fails.
use Rattle.std.specs.Prelude.{◌≡◌, ◌≤◌, ◌+◌, ◌-◌, ◌⊎◌, ℕ, List, [], ◌∷◌, ◌++◌, length, take, Some, codes}
use Rattle.gnb_base.specs.Lines.{lines_of}
use Rattle.gnb_base.specs.Outside.{SinkAt}
use Rattle.gnb_base.specs.Reading.{input_limit}
use Rattle.command_defs.specs.input_defs.Split.{joined}
use Rattle.asn1_syntax.specs.declared.assignments.assignment.Syntax.{Syntax}
use Rattle.profile.specs.declared.version.Version.TheVariants.{One}
use Rattle.message_defs.specs.profile_defs.Profile.{profile_types}
use Rattle.message_defs.specs.profile_defs.Agreement.{Agrees}
use Rattle.commands.specs.input_module.Header.{builtin_line}
use Rattle.commands.specs.input_module.Text.{IsClosed, IsUnclosed, IsOneModule}
use Rattle.scenario_text.specs.declared.event.Event.{Event}
use Rattle.command_defs.specs.declared.Status.{Status}
use Rattle.command_defs.specs.Outside.{OutsideAt, NoneFailed}
use Rattle.command_defs.specs.Output.{Prints}
use Rattle.command_run.specs.declared.end.RunEnd.TheVariants.{Done}
use Rattle.command_run.specs.Run.{Setting, AreEvents, GoesOn, run_text, text_to}

-- the lines of the input are the header `module builtin`, and then these events and skipped lines
pub record NamesScript (input : List ℕ) (events : List Event) : Type 0 where
  pub lines : List (List ℕ)
  pub parts : lines_of input ≡ builtin_line One ∷ lines
  pub are : AreEvents lines events

abbrev pub text_line : List ℕ
text_line = codes "module text"

-- They are the header `module text`, the lines of a text up to and with the first `END` or to the input's end, and then these events and
-- skipped lines; the text is a module that agrees with the profile.
pub record TextScript (input : List ℕ) (events : List Event) : Type 0 where
  pub body : List (List ℕ)
  pub lines : List (List ℕ)
  pub text : List ℕ
  pub m : Syntax
  pub parts : lines_of input ≡ text_line ∷ (body ++ lines)
  pub whole : IsClosed body ⊎ (IsUnclosed body × (lines ≡ []))
  pub octets : text ≡ take (length input - (length text_line + 1)) (joined body)
  pub is : IsOneModule text m
  pub agrees : Agrees (profile_types 1) m
  pub are : AreEvents lines events

-- the input is a whole script of these events, in none of which the run stops
pub record IsWhole (setting : Setting) (input : List ℕ) (events : List Event) : Type 0 where
  pub goes : GoesOn setting events
  pub within : length input ≤ input_limit
  pub script : NamesScript input events ⊎ TextScript input events

-- every event was applied, and all was written; or memory ran out
abbrev pub RunsAll : Setting → SinkAt → SinkAt → List Event → Status → Type 0
RunsAll setting before after events status =
    ((status.code ≡ 0) × Prints before after (text_to (run_text setting events) (Some (Done (length events))))) ⊎ (status.code ≡ 9)

abbrev pub RunsWholly : Setting → OutsideAt → OutsideAt → Status → Type 0
RunsWholly setting before after status =
    (bytes : List ℕ) (events : List Event) → before.source.left ≡ Some bytes → IsWhole setting bytes events
    → NoneFailed before after
    → RunsAll setting before.sink after.sink events status
