-- The beginning of a value of a type of a module.
use Rattle.std.proofs.Common.{◌≡◌, List, Ok, Err, refl, ap, ◌∙◌}
use Rattle.asn1_syntax.specs.declared.types.definition.TypeId.{TypeId}
use Rattle.asn1_syntax.specs.declared.assignments.assignment.Syntax.{Syntax}
use Rattle.aper_defs.specs.Trees.{Tree}
use Rattle.aper_defs.specs.Asking.{asks}
use Rattle.aper_defs.specs.Reading.{Cursor, run}
use Rattle.proof_aper.specs.pieces.Onto.{onto}
use Rattle.aper_cursor.specs.declared.error.Unanswered.{Unanswered}
use Rattle.aper_cursor.specs.declared.error.Unanswered.TheVariants.{Wrong, Memory}
use Rattle.aper_cursor.specs.asking.Going.{fault_at}
use Rattle.aper_values.specs.declared.types.form.Form.{Form}
use Rattle.aper_values.specs.types.Types.{tree}
use Rattle.aper_values.specs.types.Forms.{form_tree}
use Rattle.aper_frames.specs.declared.frame.Frame.{Frame}
use Rattle.aper_frames.specs.Frames.{path_of, next_of}
use Rattle.aper_stream.specs.declared.resuming.pending.Pending.{Pending}
use Rattle.aper_stream.specs.declared.resuming.pending.Pending.TheVariants as pendings
use Rattle.aper_stream.specs.resuming.Turns.{Resumes, Keeps, TurnsBy, handed_back}

module _ (m : Syntax) (id : TypeId) (form : Form) (is : tree m id.number ≡ form_tree (tree m) form) (before fs : List Frame)
    (old new : Cursor) where
  pub read_on : (next : Pending) → Resumes (λ of. asks (path_of before) (form_tree of form) (next_of of before)) old new fs (Ok next)
      → TurnsBy (tree m) (pendings.Read id) old new before fs (Ok next)
  read_on next h = (
    h.0,
    λ more. ap (λ (t : Tree). run (asks (path_of before) t (next_of (tree m) before)) (onto more old)) is ∙ h.1 (tree m) more,
  )

  pub read_refused : (e : Unanswered) → Resumes (λ of. asks (path_of before) (form_tree of form) (next_of of before)) old new fs (Err e)
      → Keeps before fs (Err e) → TurnsBy (tree m) (pendings.Read id) old new before fs (Err (handed_back e (pendings.Read id)))
  read_refused (Wrong reason) h kept = (
    ap (λ (t : Tree). run (asks (path_of before) t (next_of (tree m) before)) old) is ∙ h (tree m)
        ∙ ap (λ (gs : List Frame). Err (fault_at new reason (path_of gs))) kept,
    kept,
    refl,
  )
  read_refused Memory h kept = tt
