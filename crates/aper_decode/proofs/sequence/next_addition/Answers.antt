use Rattle.std.proofs.Common.{ℕ, List, ◌∷◌, sym, ap, ◌∙◌}
use Rattle.std.specs.Prelude.{Some, None}
use Rattle.aper_defs.specs.Fields as fields
use Rattle.aper_defs.specs.Questions.{ask_open}
use Rattle.aper_defs.specs.Asking.{asks}
use Rattle.aper_defs.specs.Reading.{run}
use Rattle.aper_frames.specs.declared.frame.Frame.TheVariants as frames
use Rattle.aper_frames.specs.Frames.{additions_left, addition_after, additions_next, asked_inside, asked_unknown, path_of, next_of}
use Rattle.aper_frames.proofs.Onward.{steps_as}
use Rattle.aper_decode.proofs.SequenceSteps.{additions_end}
use Rattle.aper_decode.proofs.sequence.next_addition.Goals as goal

pub returns-in-End-clause-asked : goal.returns-in-End-clause-asked
returns-in-End-clause-asked c = λ of.
    let fs = c.args.frames.now in
    ap (λ P. run P c.args.cursor.now)
    (additions_end of c.args.additions c.next.new.self c.in_ok-next.field-0 fs c.components.result
    ((c.in_ok-next.ensures {u = tt}).asked of (path_of fs) (next_of of fs)) c.in-End.is c.components.ensures)

pub returns-in-Unnamed-clause-asked : goal.returns-in-Unnamed-clause-asked
returns-in-Unnamed-clause-asked c =
    let fs = c.args.frames.now in
    steps_as c.ask_unknown.result (λ of. additions_left of c.args.additions (path_of fs) (next_of of fs))
    (λ of. asked_unknown of (frames.Addition (record { name = None; others = c.next.new.self })) fs)
    c.args.cursor.now c.ask_unknown.new.cursor c.ask_unknown.new.frames
    (λ of. (c.in_ok-next.ensures {u = tt}).asked of (path_of fs) (next_of of fs)
    ∙ ap (additions_next of c.next.new.self (path_of fs) (next_of of fs)) c.in-Unnamed.is)
    c.ask_unknown.ensures.asked

pub returns-in-Named-clause-asked : goal.returns-in-Named-clause-asked
returns-in-Named-clause-asked c =
    let fs = c.args.frames.now in
    steps_as c.ask_inside.result (λ of. additions_left of c.args.additions (path_of fs) (next_of of fs))
    (λ of. asked_inside of (frames.Addition (record { name = Some c.as_slice.result; others = c.next.new.self }))
    c.in-Named.component.now.definition fs)
    c.args.cursor.now c.ask_inside.new.cursor c.ask_inside.new.frames
    (λ of. (c.in_ok-next.ensures {u = tt}).asked of (path_of fs) (next_of of fs)
    ∙ ap (additions_next of c.next.new.self (path_of fs) (next_of of fs)) c.in-Named.is
    ∙ ap (λ (name : List ℕ). ask_open (path_of fs) (fields.component name ∷ path_of fs)
    (asks (fields.component name ∷ path_of fs) (of c.in-Named.component.now.definition.number))
    (addition_after of c.next.new.self (path_of fs) (next_of of fs))) (sym c.as_slice.ensures))
    c.ask_inside.ensures.asked
