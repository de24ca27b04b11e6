use Rattle.std.proofs.Common.{◌≡◌, ◌++◌, ◌∷◌, [], Ok, Err, subst}
use Rattle.aper_defs.specs.Fields.{Path}
use Rattle.aper_defs.specs.Questions.{Prog}
use Rattle.aper_defs.specs.Values as seen
use Rattle.aper_values.specs.types.Types.{tree}
use Rattle.aper_values.specs.Views.{view}
use Rattle.aper_frames.specs.Frames.{element_after, elements_left, path_of, next_of}
use Rattle.aper_frames.specs.Weights.{elements_weight}
use Rattle.aper_decode.proofs.ContainerSteps.{element_kept, reads_after}
use Rattle.aper_decode.proofs.container.after_element.Goals as goal

pub returns-in-Ok-clause-asked : goal.returns-in-Ok-clause-asked
returns-in-Ok-clause-asked c =
    let of = tree c.args.m.now in
    let head = c.args.frame.head in
    let others = c.args.frame.others in
    let old = c.args.cursor.now in
    let fs = c.args.frames.now in
    let question : Path → (seen.Value → Prog) → Prog = λ p K. element_after of others head.id head.criticality p K (view c.args.value) in
    reads_after of question (elements_left of (record others { made = c.push.new.self })) old old c.read_elements.new.cursor (Ok c.in-Ok.value)
    (λ p K. element_kept of others c.push.new.self.items (record { id = head.id; criticality = head.criticality; body = c.args.value }) p K old
    (subst (λ ie. c.push.new.self.items ≡ others.made.items ++ ie ∷ []) c.keep.ensures (c.in_ok-push.ensures {u = tt}).items))
    c.in-Ok.ensures.asked (path_of fs) (next_of of fs)

pub returns-in-Err-clause-asked : goal.returns-in-Err-clause-asked
returns-in-Err-clause-asked c =
    let of = tree c.args.m.now in
    let head = c.args.frame.head in
    let others = c.args.frame.others in
    let old = c.args.cursor.now in
    let question : Path → (seen.Value → Prog) → Prog = λ p K. element_after of others head.id head.criticality p K (view c.args.value) in
    c.go_inside.ensures.asked question of old
    (reads_after of question (elements_left of (record others { made = c.push.new.self })) old old c.read_elements.new.cursor (Err c.in-Err.halt)
    (λ p K. element_kept of others c.push.new.self.items (record { id = head.id; criticality = head.criticality; body = c.args.value }) p K old
    (subst (λ ie. c.push.new.self.items ≡ others.made.items ++ ie ∷ []) c.keep.ensures (c.in_ok-push.ensures {u = tt}).items))
    c.in-Err.ensures.asked)

pub returns-in-Err-clause-lighter : goal.returns-in-Err-clause-lighter
returns-in-Err-clause-lighter c = c.go_inside.ensures.lighter (λ w. elements_weight w c.args.frame.others) c.in-Err.ensures.lighter
