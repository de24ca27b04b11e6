-- The end of a whole value, and turns that are taken, or aren't.
use Rattle.std.proofs.Common.{◌≡◌, ℕ, List, Ok, Err, refl, sym, subst}
use Rattle.aper_defs.specs.declared.reason.Reason.{Reason}
use Rattle.aper_defs.specs.Trees.{Tree}
use Rattle.aper_defs.specs.Fields.{closing}
use Rattle.aper_defs.specs.Questions.{ask, done}
use Rattle.aper_defs.specs.Reading.{Cursor, run}
use Rattle.proof_aper.proofs.followed.Stays.{stays}
use Rattle.proof_aper.proofs.followed.Plain.{plain_ask}
use Rattle.proof_aper.proofs.followed.Told.{told_number}
use Rattle.aper_cursor.specs.Answers.{Answers}
use Rattle.aper_cursor.proofs.asking.Onward.{asked_on, asked_wrong}
use Rattle.aper_values.specs.declared.value.Value.{Value}
use Rattle.aper_values.specs.Views.{view}
use Rattle.aper_frames.specs.declared.frame.Frame.{Frame}
use Rattle.aper_frames.specs.Frames.{path_of}
use Rattle.aper_stream.specs.declared.resuming.pending.Pending.TheVariants as pendings
use Rattle.aper_stream.specs.declared.resuming.pending.Stopped.TheVariants as stops
use Rattle.aper_stream.specs.declared.resuming.turn.Progress.TheVariants.{Next, Whole}
use Rattle.aper_stream.specs.declared.resuming.pending.Pending.{Pending}
use Rattle.aper_stream.specs.declared.resuming.pending.Stopped.{Stopped}
use Rattle.aper_stream.specs.resuming.Turns.{TakesTurn, Turns}

module _ (v : Value) (fs : List Frame) (old new : Cursor) where
  pub ends : (n : ℕ) → Answers closing old new (Ok n) → (of : ℕ → Tree) → TakesTurn of (pendings.Ending v) old new fs fs (Ok (Whole v))
  unfolding run
  ends n right of = λ more.
      stays (λ p. ask p closing) (told_number (λ p. ask p closing) (plain_ask closing)) old new n
      (λ p K. asked_on closing old new n right.0 right.1 p K) more (path_of fs) (λ m. done (view v))

  pub ends_wrong : (reason : Reason) → Answers closing old new (Err reason) → (of : ℕ → Tree)
      → TakesTurn of (pendings.Ending v) old new fs fs (Err (stops.Wrong reason (pendings.Ending v)))
  ends_wrong reason wrong of =
      (asked_wrong closing old new reason wrong.0 wrong.1 (path_of fs) (λ m. done (view v)), refl, refl)

-- a turn that isn't taken, of what is a pending of this kind
pub turn_stopped : (of : ℕ → Tree) (whole pending : Pending) → whole ≡ pending → (old new : Cursor) (before fs : List Frame) (e : Stopped)
    → Turns pending old new before fs (Err e) → TakesTurn of whole old new before fs (Err e)
turn_stopped of whole pending is old new before fs (stops.Wrong reason back) h =
    subst (λ (x : Pending). TakesTurn of x old new before fs (Err (stops.Wrong reason back))) (sym is) (h of)
turn_stopped of whole pending is old new before fs stops.Memory h = tt

pub turn_taken : (of : ℕ → Tree) (whole pending : Pending) → whole ≡ pending → (old new : Cursor) (before fs : List Frame) (next : Pending)
    → Turns pending old new before fs (Ok next) → TakesTurn of whole old new before fs (Ok (Next next))
turn_taken of whole pending is old new before fs next h =
    subst (λ (x : Pending). TakesTurn of x old new before fs (Ok (Next next))) (sym is) (h of)
