use Rattle.std.proofs.Common.{ℕ, List, ◌∷◌, sym, ap, ◌∙◌}
use Rattle.aper_defs.specs.Fields as fields
use Rattle.aper_defs.specs.Questions.{ask_open}
use Rattle.aper_defs.specs.Asking.{asks}
use Rattle.aper_frames.specs.Frames.{additions_next, addition_after, path_of, next_of}
use Rattle.aper_decode.proofs.SequenceSteps.{additions_end}
use Rattle.aper_stream.proofs.resuming.sequence.next_addition.Goals as goal

pub returns-in-End-clause-asked : goal.returns-in-End-clause-asked
returns-in-End-clause-asked c = λ fs of.
    additions_end of c.args.additions c.next.new.self c.in_ok-next.field-0 fs c.components.result
    ((c.in_ok-next.ensures {u = tt}).asked of (path_of fs) (next_of of fs)) c.in-End.is c.components.ensures

pub returns-clause-asked : goal.returns-clause-asked
returns-clause-asked c = λ fs of.
    (c.in_ok-next.ensures {u = tt}).asked of (path_of fs) (next_of of fs)
    ∙ ap (additions_next of c.next.new.self (path_of fs) (next_of of fs)) c.in-Named.is
    ∙ ap (λ (name : List ℕ). ask_open (path_of fs) (fields.component name ∷ path_of fs)
    (asks (fields.component name ∷ path_of fs) (of c.in-Named.component.now.definition.number))
    (addition_after of c.next.new.self (path_of fs) (next_of of fs))) (sym c.as_slice.ensures)
