-- Steps after what leads to them.
use Rattle.std.proofs.Common.{◌≡◌, ℕ, List, Result, Ok, Err, ap, ◌∙◌}
use Rattle.aper_defs.specs.declared.reason.Reason.{Reason}
use Rattle.aper_defs.specs.Trees.{Tree}
use Rattle.aper_defs.specs.Fields.{Path}
use Rattle.aper_defs.specs.Questions.{Prog}
use Rattle.aper_defs.specs.Reading.{Cursor, run}
use Rattle.aper_cursor.specs.declared.error.Unanswered.{Unanswered}
use Rattle.aper_cursor.specs.declared.error.Unanswered.TheVariants.{Wrong, Memory}
use Rattle.aper_cursor.specs.asking.Going.{GoesOn, GoesOnOrMemory}
use Rattle.aper_frames.specs.declared.frame.Frame.{Frame}
use Rattle.aper_frames.specs.declared.frame.Turn.{Turn}
use Rattle.aper_frames.specs.Frames.{path_of}
use Rattle.aper_frames.specs.Steps.{Steps}

pub steps_after : (r : Result Turn Unanswered) (P Q : (ℕ → Tree) → Prog) (old mid new : Cursor) (fs : List Frame)
    → ((of : ℕ → Tree) → run (P of) old ≡ run (Q of) mid) → Steps Q mid new fs r → Steps P old new fs r
steps_after (Ok turn) P Q old mid new fs e h = λ of. e of ∙ h of
steps_after (Err (Wrong reason)) P Q old mid new fs e h = λ of. e of ∙ h of
steps_after (Err Memory) P Q old mid new fs e h = tt

pub steps_as : (r : Result Turn Unanswered) (P Q : (ℕ → Tree) → Prog) (old new : Cursor) (fs : List Frame)
    → ((of : ℕ → Tree) → P of ≡ Q of) → Steps Q old new fs r → Steps P old new fs r
steps_as r P Q old new fs e h = steps_after r P Q old old new fs (λ of. ap (λ (X : Prog). run X old) (e of)) h

-- what is asked first is wrong
pub first_wrong : {A : Type 0} (P : (ℕ → Tree) → Prog) (inner : Path → (A → Prog) → Prog) (rest : (ℕ → Tree) → A → Prog)
    (old new : Cursor) (fs : List Frame) (reason : Reason) → ((of : ℕ → Tree) → P of ≡ inner (path_of fs) (rest of))
    → GoesOn inner old new (Err reason) → Steps P old new fs (Err (Wrong reason))
first_wrong P inner rest old new fs reason e h = λ of. ap (λ (X : Prog). run X old) (e of) ∙ h (path_of fs) (rest of)

pub first_refused : {A : Type 0} (P : (ℕ → Tree) → Prog) (inner : Path → (A → Prog) → Prog) (rest : (ℕ → Tree) → A → Prog)
    (old new : Cursor) (fs : List Frame) (error : Unanswered) → ((of : ℕ → Tree) → P of ≡ inner (path_of fs) (rest of))
    → GoesOnOrMemory inner old new (Err error) → Steps P old new fs (Err error)
first_refused P inner rest old new fs (Wrong reason) e h = λ of. ap (λ (X : Prog). run X old) (e of) ∙ h (path_of fs) (rest of)
first_refused P inner rest old new fs Memory e h = tt
