-- A value that is read at once.
use Rattle.std.proofs.Common.{◌≡◌, ℕ, List, Ok, Err, ap, ◌∙◌}
use Rattle.aper_defs.specs.Trees.{Tree}
use Rattle.aper_defs.specs.Asking.{asks}
use Rattle.aper_defs.specs.Reading.{Cursor, run}
use Rattle.proof_aper.specs.pieces.Onto.{onto}
use Rattle.proof_aper.specs.followed.Followed.{IsPlain}
use Rattle.proof_aper.proofs.followed.Stays.{stays}
use Rattle.proof_aper.proofs.followed.Shut.{keeps}
use Rattle.proof_aper.proofs.followed.Told.{told_value}
use Rattle.aper_cursor.specs.declared.error.Unanswered.{Unanswered}
use Rattle.aper_cursor.specs.declared.error.Unanswered.TheVariants.{Wrong, Memory}
use Rattle.aper_values.specs.declared.value.Value.{Value}
use Rattle.aper_values.specs.Views.{view}
use Rattle.aper_frames.specs.simple.Reads.{Reads}
use Rattle.aper_frames.specs.declared.frame.Frame.{Frame}
use Rattle.aper_frames.specs.Frames.{path_of, next_of}
use Rattle.aper_stream.specs.declared.resuming.pending.Pending.TheVariants as pendings
use Rattle.aper_stream.specs.resuming.Turns.{Resumes}

module _ (tree_of : (ℕ → Tree) → Tree) (t : Tree) (is : (of : ℕ → Tree) → tree_of of ≡ t) (fs : List Frame) (old new : Cursor) where
  pub read_made : IsPlain (λ p. asks p t) → (v : Value) → Reads (λ p. asks p t) old new (Ok v)
      → Resumes (λ of. asks (path_of fs) (tree_of of) (next_of of fs)) old new fs (Ok (pendings.Made v))
  read_made plain v reads = (
    keeps (λ p. asks p t) (told_value (λ p. asks p t) plain) old new (view v) reads,
    λ of more.
        ap (λ (x : Tree). run (asks (path_of fs) x (next_of of fs)) (onto more old)) (is of)
        ∙ stays (λ p. asks p t) (told_value (λ p. asks p t) plain) old new (view v) reads more (path_of fs) (next_of of fs),
  )

  pub read_refused : (e : Unanswered) → Reads (λ p. asks p t) old new (Err e)
      → Resumes (λ of. asks (path_of fs) (tree_of of) (next_of of fs)) old new fs (Err e)
  read_refused (Wrong reason) reads = λ of.
      ap (λ (x : Tree). run (asks (path_of fs) x (next_of of fs)) old) (is of) ∙ reads (path_of fs) (next_of of fs)
  read_refused Memory reads = tt
