-- What is done with a whole script whose bytes are reported, where no read and no write fails.
use Rattle.std.specs.Prelude.{◌≡◌, ◌≤◌, ◌⊎◌, ℕ, List, length, Some, None}
use Rattle.gnb_base.specs.Lines.{lines_of}
use Rattle.gnb_base.specs.Outside.{SinkAt}
use Rattle.gnb_base.specs.Reading.{input_limit}
use Rattle.command_defs.specs.declared.Status.{Status}
use Rattle.command_defs.specs.Outside.{OutsideAt, NoneFailed}
use Rattle.command_defs.specs.Output.{Prints}
use Rattle.command_bearers.specs.declared.script_word.end.ScriptEnd.TheVariants.{Done}
use Rattle.command_bearers.specs.script_word.Meaning.{WordMeaning}
use Rattle.command_bearers.specs.script_word.Run.{AreEvents, text_to}

-- the input is a whole script of these events, in none of which the run stops
pub record IsWhole {Event : Type 0} (m : WordMeaning Event) (input : List ℕ) (events : List Event) : Type 0 where
  pub within : length input ≤ input_limit
  pub are : AreEvents m (lines_of input) events
  pub goes : m.stopped events ≡ None

-- every event was applied, and all was written; or memory ran out
abbrev pub RunsAll : {Event : Type 0} → WordMeaning Event → SinkAt → SinkAt → List Event → Status → Type 0
RunsAll m before after events status =
    ((status.code ≡ 0) × Prints before after (text_to (m.text events) (Some (Done (length events))))) ⊎ (status.code ≡ 9)

abbrev pub RunsWholly : {Event : Type 0} → WordMeaning Event → OutsideAt → OutsideAt → Status → Type 0
RunsWholly {Event = Event} m before after status =
    (bytes : List ℕ) (events : List Event) → before.source.left ≡ Some bytes → IsWhole m bytes events
    → NoneFailed before after
    → RunsAll m before.sink after.sink events status
