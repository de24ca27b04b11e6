-- The beginning of a container.
use Rattle.std.proofs.Common.{◌≡◌, ℕ, List, [], Ok, sym, ap, ◌∙◌}
use Rattle.asn1_syntax.specs.declared.assignments.assignment.IeRow.{IeRow}
use Rattle.aper_defs.specs.Trees.{Tree, container, mandatory_count}
use Rattle.aper_defs.specs.Values as seen
use Rattle.aper_defs.specs.Fields.{ie_count}
use Rattle.aper_defs.specs.Questions.{ask_aligned, ask_ies}
use Rattle.aper_defs.specs.Asking.{asks, ask_row}
use Rattle.aper_defs.specs.Reading.{Cursor, run}
use Rattle.aper_cursor.specs.Questions.{slots_of}
use Rattle.proof_aper.specs.pieces.Onto.{onto}
use Rattle.proof_aper.proofs.followed.Told.{told_aligned}
use Rattle.aper_cursor.specs.asking.Going.{GoesOn}
use Rattle.aper_values.specs.types.Types.{rows_of}
use Rattle.aper_values.specs.declared.value.Value.{Value}
use Rattle.aper_values.specs.declared.value.Element.{Element}
use Rattle.aper_frames.specs.declared.frame.Elements.{Elements}
use Rattle.aper_frames.specs.declared.frame.Frame.{Frame}
use Rattle.aper_frames.specs.Frames.{ies_before, elements_by, elements_left, path_of, next_of}
use Rattle.aper_frames.proofs.aper_elements.ContainerLemmas.{container_as}
use Rattle.aper_stream.specs.declared.resuming.pending.Pending.{Pending}
use Rattle.aper_stream.specs.resuming.Turns.{IsLeft, Resumes}
use Rattle.aper_stream.proofs.resuming.Leading.{answered_on}

pub container_begun : (e : Elements) (fs : List Frame) (old new : Cursor) (next : Pending) → e.possible.now ≡ e.rows.now → e.made.items ≡ []
    → GoesOn (λ p. ask_aligned p (ie_count (mandatory_count (slots_of e.rows.now)))) old new (Ok e.left)
    → IsLeft (λ gs of. elements_left of e (path_of gs) (next_of of gs)) next
    → Resumes (λ of. asks (path_of fs) (container (rows_of of e.rows.now)) (next_of of fs)) old new fs (Ok next)
container_begun e fs old new next all none asked on =
    answered_on (λ p. ask_aligned p (ie_count (mandatory_count (slots_of e.rows.now))))
    (λ of. asks (path_of fs) (container (rows_of of e.rows.now)) (next_of of fs))
    (λ of n. ask_ies (path_of fs) (slots_of e.rows.now) (λ id. ask_row (path_of fs) (rows_of of e.rows.now) id) n (slots_of e.rows.now)
    (λ ies. next_of of fs (seen.elements ies))) fs
    (λ of. container_as of (path_of fs) e.rows.now (next_of of fs)) old new
    (told_aligned (ie_count (mandatory_count (slots_of e.rows.now)))) e.left next fs asked
    (λ of. ap (λ (rs : List IeRow). ask_ies (path_of fs) (slots_of e.rows.now)
    (λ id. ask_row (path_of fs) (rows_of of e.rows.now) id) e.left (slots_of rs)
    (λ ies. next_of of fs (seen.elements ies))) (sym all)
    ∙ ap (λ (es : List (Element Value)). elements_by of e (path_of fs) (ies_before es (λ ies. next_of of fs (seen.elements ies))))
    (sym none)
    ∙ on fs of)
