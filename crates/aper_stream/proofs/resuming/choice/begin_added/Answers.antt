use Rattle.std.proofs.Common.{ℕ, List, ◌∷◌, sym, ap, ◌∙◌}
use Rattle.std.specs.Prelude.{option_copied}
use Rattle.aper_defs.specs.Values as seen
use Rattle.aper_defs.specs.Fields as fields
use Rattle.aper_defs.specs.Questions.{ask_open}
use Rattle.aper_defs.specs.Asking.{asks}
use Rattle.aper_frames.specs.Frames.{path_of, next_of}
use Rattle.aper_frames.specs.aper_elements.Added.{asked_added}
use Rattle.aper_stream.proofs.resuming.choice.begin_added.Goals as goal

pub returns-in-Some-clause-asked : goal.returns-in-Some-clause-asked
returns-in-Some-clause-asked c = λ fs of.
    ap (λ x. asked_added of (path_of fs) (λ v. next_of of fs (seen.chosen c.args.index v)) (option_copied x)) c.in-Some.is
    ∙ ap (λ (name : List ℕ). ask_open (path_of fs) (fields.component name ∷ path_of fs)
    (asks (fields.component name ∷ path_of fs) (of c.in-Some.alternative.now.definition.number))
    (λ v. next_of of fs (seen.chosen c.args.index v))) (sym c.as_slice.ensures)
