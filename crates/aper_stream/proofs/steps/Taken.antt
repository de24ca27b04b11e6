-- What steps do.
use Rattle.std.proofs.Common.{◌≡◌, ℕ, ◌+◌, ◌*◌, ◌≤◌, List, [], ◌++◌, length, Result, Ok, Err, refl, sym, ap, subst, ◌∙◌, arith, append-nil}
use Rattle.asn1_syntax.specs.declared.assignments.assignment.Syntax.{Syntax}
use Rattle.aper_defs.specs.declared.reason.Reason.{Reason}
use Rattle.aper_defs.specs.Trees.{Tree}
use Rattle.aper_defs.specs.Values as seen
use Rattle.aper_defs.specs.Questions.{Prog}
use Rattle.aper_defs.specs.Reading.{Cursor, run}
use Rattle.proof_aper.specs.pieces.Onto.{onto}
use Rattle.aper_cursor.specs.declared.error.Unanswered.TheVariants as unanswered
use Rattle.aper_cursor.specs.declared.strings.units.Content.{Content}
use Rattle.aper_cursor.specs.strings.Contents.{content_of}
use Rattle.aper_values.specs.declared.value.Value.{Value}
use Rattle.aper_values.specs.Views.{view}
use Rattle.aper_values.specs.types.Types.{tree}
use Rattle.aper_frames.specs.declared.frame.Frame.{Frame}
use Rattle.aper_frames.specs.Frames.{path_of, next_of}
use Rattle.aper_decode.specs.Heavy.{weighed}
use Rattle.aper_stream.specs.declared.resuming.pending.Pending.{Pending}
use Rattle.aper_stream.specs.declared.resuming.pending.Pending.TheVariants as pendings
use Rattle.aper_stream.specs.declared.resuming.pending.Stopped.{Stopped}
use Rattle.aper_stream.specs.declared.resuming.pending.Stopped.TheVariants as stops
use Rattle.aper_stream.specs.declared.resuming.turn.Progress.{Progress}
use Rattle.aper_stream.specs.declared.resuming.turn.Progress.TheVariants as progress
use Rattle.aper_stream.specs.resuming.Turns.{left, TakesTurn, Lessens}
use Rattle.aper_stream.specs.declared.string_turns.field.StringField.{StringField}
use Rattle.aper_stream.specs.declared.string_turns.field.StringField.TheVariants as fields
use Rattle.aper_stream.specs.declared.string_turns.string.StringLeft.{StringLeft}
use Rattle.aper_stream.specs.string_turns.Strings.{field_left, string_left, TakesString}
use Rattle.aper_stream.specs.declared.steps.step.Next.{Next}
use Rattle.aper_stream.specs.declared.steps.step.Next.TheVariants as comes
use Rattle.aper_stream.specs.declared.steps.step.Onward.{Onward}
use Rattle.aper_stream.specs.declared.steps.step.Onward.TheVariants as onwards
use Rattle.aper_stream.specs.declared.steps.step.Halted.TheVariants as halts
use Rattle.aper_stream.specs.steps.Steps.{string_value, next_left, IsPendingLight, IsNextLight, IsNextBounded, TakesStep, OnNext, IsProgressInside, IsOnward, halted_by}
use Rattle.aper_stream.proofs.steps.Strings.{reads_inside}

-- ---- turns
module _ (m : Syntax) (pending : Pending) (old new : Cursor) (before fs : List Frame) where
  pub turn_on : (done : Progress) (on : Onward) → TakesTurn (tree m) pending old new before fs (Ok done) → IsOnward m done on
      → TakesStep (tree m) (comes.Turn pending) old new before fs (Ok on)
  turn_on (progress.Next other) (onwards.Next next) h o =
      (h.0, λ more. h.1 more ∙ ap (λ (P : Prog). run P (onto more new)) (sym (o.same fs)))
  turn_on (progress.Next other) (onwards.Whole w) h o = absurd o
  turn_on (progress.Whole v) (onwards.Whole w) h o = λ more. h more ∙ ap (λ (x : Value). Ok (view x, onto more new)) (sym o)
  turn_on (progress.Whole v) (onwards.Next next) h o = absurd o

  pub turn_stopped : (e : Stopped) → TakesTurn (tree m) pending old new before fs (Err e)
      → TakesStep (tree m) (comes.Turn pending) old new before fs (Err (halted_by e))
  turn_stopped (stops.Wrong reason back) h = (h.0, h.1, ap comes.Turn h.2)
  turn_stopped stops.Memory h = tt

  pub turn_inside : (done : Progress) → IsPendingLight m pending before → Lessens m pending before fs (Ok done)
      → IsProgressInside (length m.nodes) done
  turn_inside (progress.Next other) light less = reads_inside m other fs (light.0, λ o. omega (arith, light.1 o, less o))
  turn_inside (progress.Whole v) light less = tt

  pub turn_light : (done : Progress) (on : Onward) → IsPendingLight m pending before → Lessens m pending before fs (Ok done)
      → IsOnward m done on → OnNext (Ok on) (λ next. IsNextLight m next fs)
  turn_light (progress.Next other) (onwards.Next next) light less o = o.light fs (light.0, λ x. omega (arith, light.1 x, less x))
  turn_light (progress.Next other) (onwards.Whole w) light less o = tt
  turn_light (progress.Whole v) (onwards.Whole w) light less o = tt
  turn_light (progress.Whole v) (onwards.Next next) light less o = absurd o

pub turn_bounded : (m : Syntax) (place : ℕ) (done : Progress) (on : Onward) → IsOnward m done on → OnNext (Ok on) (IsNextBounded place)
turn_bounded m place (progress.Next other) (onwards.Next next) o = o.bounded place
turn_bounded m place (progress.Next other) (onwards.Whole w) o = tt
turn_bounded m place (progress.Whole v) (onwards.Whole w) o = tt
turn_bounded m place (progress.Whole v) (onwards.Next next) o = absurd o

-- ---- strings
module _ (of : ℕ → Tree) (fs : List Frame) (s t : StringLeft) (old new : Cursor) where
  pub string_on : TakesString s t old new (Ok tt) → t.content ≡ s.content
      → TakesStep of (comes.String s) old new fs fs (Ok (onwards.Next (comes.String t)))
  string_on h same = (
    h.0,
    λ more. h.1 more (path_of fs) (λ units. next_of of fs (string_value (content_of s.content) units))
        ∙ ap (λ (c : Content). run (string_left t (path_of fs) (λ units. next_of of fs (string_value (content_of c) units))) (onto more new))
        (sym same),
  )

  pub string_wrong : (reason : Reason) → TakesString s t old new (Err (unanswered.Wrong reason))
      → TakesStep of (comes.String s) old new fs fs (Err (halts.Wrong reason (comes.String t)))
  string_wrong reason h =
      (h.0 (path_of fs) (λ units. next_of of fs (string_value (content_of s.content) units)), refl, ap comes.String h.1)

-- the value of a whole string
pub string_made : (of : ℕ → Tree) (fs : List Frame) (s : StringLeft) (c : Cursor) (v : Value) → s.field ≡ fields.Nothing
    → view v ≡ string_value (content_of s.content) s.units.items
    → TakesStep of (comes.String s) c c fs fs (Ok (onwards.Next (comes.Turn (pendings.Made v))))
string_made of fs s c v none is = (
  refl,
  λ more. ap (λ (f : StringField). run (field_left (content_of s.content) f (path_of fs)
      (λ us. next_of of fs (string_value (content_of s.content) (s.units.items ++ us)))) (onto more c)) none
      ∙ ap (λ (us : List ℕ). run (next_of of fs (string_value (content_of s.content) us)) (onto more c)) (append-nil s.units.items)
      ∙ ap (λ (x : seen.Value). run (next_of of fs x) (onto more c)) (sym is),
)
