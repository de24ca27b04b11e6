-- What comes next of a value, and what a step does.
use Rattle.std.specs.Prelude.{◌≡◌, ℕ, ◌+◌, ◌*◌, ◌≤◌, ◌==◌, List, map, Option, None, Some, Result, Ok, Err}
use Rattle.asn1_syntax.specs.declared.assignments.assignment.Syntax.{Syntax}
use Rattle.asn1_syntax.specs.declared.types.definition.Size.{Size}
use Rattle.aper_defs.specs.Trees.{Tree}
use Rattle.aper_defs.specs.Values as seen
use Rattle.aper_defs.specs.Bounds.{IsSizeBounded}
use Rattle.aper_defs.specs.Fields.{Path}
use Rattle.aper_defs.specs.Parts as parts
use Rattle.aper_defs.specs.Questions.{Prog, ask_string}
use Rattle.aper_defs.specs.Asking.{asks}
use Rattle.aper_defs.specs.Reading.{Cursor, run}
use Rattle.proof_aper.specs.pieces.Onto.{onto}
use Rattle.aper_cursor.specs.asking.Going.{fault_at}
use Rattle.aper_cursor.specs.declared.strings.units.Content.{Content}
use Rattle.aper_cursor.specs.strings.Contents.{content_of}
use Rattle.aper_values.specs.declared.types.form.Form.{Form}
use Rattle.aper_values.specs.types.Forms.{form_tree}
use Rattle.aper_values.specs.types.Types.{tree}
use Rattle.aper_values.specs.Views.{view}
use Rattle.aper_frames.specs.declared.frame.Frame.{Frame}
use Rattle.aper_frames.specs.Frames.{path_of, next_of}
use Rattle.aper_frames.specs.Weights.{frames_weight}
use Rattle.aper_decode.specs.Heavy.{weighed}
use Rattle.aper_stream.specs.declared.resuming.pending.Pending.{Pending}
use Rattle.aper_stream.specs.declared.resuming.pending.Stopped.{Stopped}
use Rattle.aper_stream.specs.declared.resuming.pending.Stopped.TheVariants as stops
use Rattle.aper_stream.specs.declared.resuming.turn.Progress.{Progress}
use Rattle.aper_stream.specs.declared.resuming.turn.Progress.TheVariants as progress
use Rattle.aper_stream.specs.resuming.Turns.{left, IsPendingInside}
use Rattle.aper_stream.specs.resuming.Weights.{weight_left}
use Rattle.aper_stream.specs.string_turns.Strings.{string_left, IsFieldBounded}
use Rattle.aper_stream.specs.declared.steps.step.Next.{Next}
use Rattle.aper_stream.specs.declared.steps.step.Next.TheVariants as comes
use Rattle.aper_stream.specs.declared.steps.step.Onward.{Onward}
use Rattle.aper_stream.specs.declared.steps.step.Onward.TheVariants as onwards
use Rattle.aper_stream.specs.declared.steps.step.Halted.{Halted}
use Rattle.aper_stream.specs.declared.steps.step.Halted.TheVariants as halts

-- ---- what is left
abbrev pub string_value : parts.Content → List ℕ → seen.Value
string_value parts.of_bits units = seen.bits (map (λ b. b == 1) units)
string_value parts.of_octets units = seen.octets units
string_value parts.of_characters units = seen.text units

abbrev pub next_left : (ℕ → Tree) → Next → List Frame → Prog
next_left of (comes.Turn pending) fs = left of pending fs
next_left of (comes.String s) fs =
    string_left s (path_of fs) (λ units. next_of of fs (string_value (content_of s.content) units))

-- No more than so much is left, whatever types outside the module weigh.
abbrev pub IsPendingLight : Syntax → Pending → List Frame → Type 0
IsPendingLight m pending fs = (most : ℕ) × ((other : ℕ) → weight_left (weighed m other) pending fs ≤ most)

abbrev pub IsNextLight : Syntax → Next → List Frame → Type 0
IsNextLight m (comes.Turn pending) fs = IsPendingLight m pending fs
IsNextLight m (comes.String s) fs = (most : ℕ) × ((other : ℕ) → 1 + 2 * frames_weight (weighed m other) fs ≤ most)

abbrev pub IsNextBounded : ℕ → Next → Type 0
IsNextBounded place (comes.Turn pending) = Unit {0}
IsNextBounded place (comes.String s) = IsFieldBounded place s.field

-- ---- strings
abbrev pub IsStringForm : Form → Option (Content × Option Size) → Type 0
IsStringForm form None = Unit {0}
IsStringForm form (Some string) = IsSizeBounded string.1 × ((of : ℕ → Tree) (p : Path) (K : seen.Value → Prog)
    → asks p (form_tree of form) K ≡ ask_string p (content_of string.0) string.1 (λ units. K (string_value (content_of string.0) units)))

abbrev pub IsStringOf : (ℕ → Tree) → Pending → Option (Content × Option Size) → Type 0
IsStringOf of pending None = Unit {0}
IsStringOf of pending (Some string) = IsSizeBounded string.1
    × ((fs : List Frame) → left of pending fs
    ≡ ask_string (path_of fs) (content_of string.0) string.1 (λ units. next_of of fs (string_value (content_of string.0) units)))
    × ((w : ℕ → ℕ) (fs : List Frame) → 2 * frames_weight w fs ≤ weight_left w pending fs)

-- ---- steps
-- A step leads to another one, over the same octets and whatever octets come after them, or it is the end of the whole value; or it hands
-- back what it was given, refused at the new place on the way to the value that is read.
abbrev pub TakesStep : (ℕ → Tree) → Next → Cursor → Cursor → (before fs : List Frame) → Result Onward Halted → Type 0
TakesStep of next old new before fs (Ok (onwards.Next other)) = (new.octets ≡ old.octets)
    × ((more : List ℕ) → run (next_left of next before) (onto more old) ≡ run (next_left of other fs) (onto more new))
TakesStep of next old new before fs (Ok (onwards.Whole v)) =
    (more : List ℕ) → run (next_left of next before) (onto more old) ≡ Ok (view v, onto more new)
TakesStep of next old new before fs (Err (halts.Wrong reason back)) =
    (run (next_left of next before) old ≡ Err (fault_at new reason (path_of before))) × (fs ≡ before) × (back ≡ next)
TakesStep of next old new before fs (Err halts.Memory) = Unit {0}

-- what comes next
abbrev pub OnNext : Result Onward Halted → (Next → Type 0) → Type 0
OnNext (Ok (onwards.Next next)) P = P next
OnNext (Ok (onwards.Whole v)) P = Unit {0}
OnNext (Err e) P = Unit {0}

-- ---- turns
abbrev pub IsProgressInside : ℕ → Progress → Type 0
IsProgressInside n (progress.Next pending) = IsPendingInside n pending
IsProgressInside n (progress.Whole v) = Unit {0}

-- what comes next, where a string begins too
pub record Begins (m : Syntax) (pending : Pending) (next : Next) : Type 0 where
  pub same : (fs : List Frame) → next_left (tree m) next fs ≡ left (tree m) pending fs
  pub light : (fs : List Frame) → IsPendingLight m pending fs → IsNextLight m next fs
  pub bounded : (place : ℕ) → IsNextBounded place next

abbrev pub IsOnward : Syntax → Progress → Onward → Type 0
IsOnward m (progress.Next pending) (onwards.Next next) = Begins m pending next
IsOnward m (progress.Next pending) (onwards.Whole w) = ⊥
IsOnward m (progress.Whole v) (onwards.Whole w) = w ≡ v
IsOnward m (progress.Whole v) (onwards.Next next) = ⊥

abbrev pub halted_by : Stopped → Halted
halted_by (stops.Wrong reason pending) = halts.Wrong reason (comes.Turn pending)
halted_by stops.Memory = halts.Memory
