-- A question, and what is left after its answer.
use Rattle.std.proofs.Common.{◌≡◌, ℕ, List, Result, Ok, Err, refl, ap, ◌∙◌}
use Rattle.std.specs.Prelude.{IfOk}
use Rattle.aper_defs.specs.declared.reason.Reason.{Reason}
use Rattle.aper_defs.specs.Trees.{Tree}
use Rattle.aper_defs.specs.Fields.{Path}
use Rattle.aper_defs.specs.Questions.{Prog}
use Rattle.aper_defs.specs.Reading.{Cursor, run}
use Rattle.proof_aper.specs.pieces.Onto.{onto}
use Rattle.proof_aper.proofs.followed.Stays.{Told, stays}
use Rattle.proof_aper.proofs.followed.Shut.{keeps}
use Rattle.aper_cursor.specs.declared.error.Unanswered.{Unanswered}
use Rattle.aper_cursor.specs.declared.error.Unanswered.TheVariants.{Wrong, Memory}
use Rattle.aper_cursor.specs.asking.Going.{fault_at, GoesOn, GoesOnOrMemory}
use Rattle.aper_frames.specs.declared.frame.Frame.{Frame}
use Rattle.aper_frames.specs.Frames.{path_of}
use Rattle.aper_stream.specs.declared.resuming.pending.Pending.{Pending}
use Rattle.aper_stream.specs.declared.resuming.pending.Stopped.TheVariants as stops
use Rattle.aper_stream.specs.resuming.Turns.{left, IsLeft, Resumes, Turns, handed_back}

pub leads_as : {E : Type 0} (r : Result Pending E) (P Q : (ℕ → Tree) → Prog) (fs : List Frame) → ((of : ℕ → Tree) → P of ≡ Q of)
    → IfOk r (λ next. (of : ℕ → Tree) → Q of ≡ left of next fs) → IfOk r (λ next. (of : ℕ → Tree) → P of ≡ left of next fs)
leads_as (Ok next) P Q fs e h = λ of. e of ∙ h of
leads_as (Err error) P Q fs e h = tt

pub leaves_as : {E : Type 0} (r : Result Pending E) (P Q : List Frame → (ℕ → Tree) → Prog)
    → ((fs : List Frame) (of : ℕ → Tree) → P fs of ≡ Q fs of) → IfOk r (IsLeft Q) → IfOk r (IsLeft P)
leaves_as (Ok next) P Q e h = λ fs of. e fs of ∙ h fs of
leaves_as (Err error) P Q e h = tt

module _ {A : Type 0} (question : Path → (A → Prog) → Prog) (all : (ℕ → Tree) → Prog) (rest : (ℕ → Tree) → A → Prog) (before : List Frame)
    (is : (of : ℕ → Tree) → all of ≡ question (path_of before) (rest of)) (old new : Cursor) where
  pub answered_on : Told question → (x : A) (next : Pending) (fs : List Frame) →
      ((p : Path) (K : A → Prog) → run (question p K) old ≡ run (K x) new)
      → ((of : ℕ → Tree) → rest of x ≡ left of next fs)
      → Resumes all old new fs (Ok next)
  answered_on told x next fs asked on = (
    keeps question told old new x asked,
    λ of more.
        ap (λ (P : Prog). run P (onto more old)) (is of)
        ∙ stays question told old new x asked more (path_of before) (rest of)
        ∙ ap (λ (P : Prog). run P (onto more new)) (on of),
  )

  pub wrong_on : (reason : Reason) → GoesOn question old new (Err reason) → (of : ℕ → Tree) → run (all of) old ≡ Err
      (fault_at new reason (path_of before))
  wrong_on reason asked = λ of. ap (λ (P : Prog). run P old) (is of) ∙ asked (path_of before) (rest of)

  pub refused_on : (e : Unanswered) → GoesOnOrMemory question old new (Err e) → Resumes all old new before (Err e)
  refused_on (Wrong reason) asked = wrong_on reason asked
  refused_on Memory asked = tt

-- of a turn
module _ {A : Type 0} (question : Path → (A → Prog) → Prog) (pending : Pending) (rest : (ℕ → Tree) → A → Prog) (before : List Frame)
    (is : (of : ℕ → Tree) → left of pending before ≡ question (path_of before) (rest of)) (old new : Cursor) where
  pub turn_on : Told question → (x : A) (next : Pending) (fs : List Frame) →
      ((p : Path) (K : A → Prog) → run (question p K) old ≡ run (K x) new)
      → ((of : ℕ → Tree) → rest of x ≡ left of next fs) → Turns pending old new before fs (Ok next)
  turn_on told x next fs asked on = λ of.
      let r = answered_on question (λ of. left of pending before) rest before is old new told x next fs asked on in (r.0, r.1 of)

  pub turn_wrong : (reason : Reason) → GoesOn question old new (Err reason) → Turns pending old new before before
      (Err (stops.Wrong reason pending))
  turn_wrong reason asked = λ of. (wrong_on question (λ of. left of pending before) rest before is old new reason asked of, refl, refl)

  pub turn_refused : (e : Unanswered) → GoesOnOrMemory question old new (Err e) → Turns pending old new before before
      (Err (handed_back e pending))
  turn_refused (Wrong reason) asked = turn_wrong reason asked
  turn_refused Memory asked = λ of. tt
