-- Values that are read and put after others.
use Rattle.std.proofs.Common.{◌≡◌, ℕ, List, Bool, Result, Ok, Err, sym, ap, subst}
use Rattle.std.specs.Prelude.{ℤ}
use Rattle.aper_defs.specs.Trees.{Tree, integer}
use Rattle.aper_defs.specs.Values as seen
use Rattle.aper_defs.specs.Fields.{Path}
use Rattle.aper_defs.specs.Questions.{Prog}
use Rattle.aper_defs.specs.Asking.{asks}
use Rattle.aper_defs.specs.Reading.{Cursor}
use Rattle.aper_cursor.specs.declared.error.Unanswered.{Unanswered}
use Rattle.aper_cursor.specs.declared.error.Unanswered.TheVariants.{Wrong, Memory}
use Rattle.aper_values.specs.declared.types.form.Form.{Form}
use Rattle.aper_values.specs.declared.types.form.Form.TheVariants as forms
use Rattle.aper_values.specs.types.Forms.{form_tree}
use Rattle.aper_values.specs.declared.value.Value.{Value}
use Rattle.aper_frames.specs.simple.Reads.{Reads}
use Rattle.aper_decode.specs.Puts.{Puts, PutsRead}
use Rattle.aper_decode.proofs.InPlace.{reads_as}

-- what was read and then put was put as it was read
pub puts : {A : Type 0} (keeps : Value → A → Type 0) (question : Path → (seen.Value → Prog) → Prog) (old new : Cursor) (before after : List A)
    (read : Result Value Unanswered) (result : Result (Unit {0}) Unanswered)
    → Reads question old new read → PutsRead keeps read before after result → Puts keeps question old new before after result
puts keeps question old new before after (Ok value) (Ok done) reads put =
    record { value = value; kept = put.kept; read = reads; kept_as = put.kept_as; put = put.put }
puts keeps question old new before after (Ok value) (Err (Wrong reason)) reads put = absurd put
puts keeps question old new before after (Ok value) (Err Memory) reads put = tt
puts keeps question old new before after (Err error) (Ok done) reads put = absurd put
puts keeps question old new before after (Err error) (Err (Wrong reason)) reads put =
    (subst (λ e. Reads question old new (Err e)) (sym put.0) reads, put.1)
puts keeps question old new before after (Err error) (Err Memory) reads put = tt

-- an INTEGER of a form is read by the ends of its range
pub integer_reads : (of : ℕ → Tree) (form : Form) (low high l h : ℤ) (extensible : Bool) (old new : Cursor) (r : Result Value Unanswered)
    → form ≡ forms.Integer low high extensible → l ≡ low → h ≡ high → Reads (λ p. asks p (integer l h extensible)) old new r
    → Reads (λ p. asks p (form_tree of form)) old new r
integer_reads of form low high l h extensible old new r is same_low same_high reads =
    reads_as r (form_tree of form) (integer low high extensible) old new (ap (form_tree of) is)
    (subst (λ (z : ℤ). Reads (λ p. asks p (integer low z extensible)) old new r) same_high
    (subst (λ (z : ℤ). Reads (λ p. asks p (integer z h extensible)) old new r) same_low reads))
