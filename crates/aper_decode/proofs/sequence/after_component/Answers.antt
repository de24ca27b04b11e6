use Rattle.std.proofs.Common.{ap}
use Rattle.aper_defs.specs.Reading.{run}
use Rattle.aper_defs.specs.Asking.{ask_components}
use Rattle.aper_values.specs.types.Types.{tree, parts_of}
use Rattle.aper_values.specs.Views.{view}
use Rattle.aper_frames.specs.Frames.{component_after, components_left, after_components, path_of, next_of}
use Rattle.aper_decode.proofs.SequenceSteps.{option_put}
use Rattle.aper_decode.proofs.InPlace.{in_after}
use Rattle.aper_decode.proofs.sequence.after_component.Goals as goal

pub returns-clause-asked : goal.returns-clause-asked
returns-clause-asked c =
    let fs = c.args.frames.now in
    let a = c.args.components in
    let of = tree c.args.m.now in
    in_after c.read_components.result of (component_after of a (path_of fs) (next_of of fs) (view c.args.value))
    (components_left of (record a { made = c.push.new.self }) (path_of fs) (next_of of fs))
    c.args.cursor.now c.args.cursor.now c.read_components.new.cursor c.read_components.new.frames
    (ap (λ P. run P c.args.cursor.now)
    (option_put (λ J. ask_components (path_of fs) (parts_of of a.left.now) a.there J) a.made.items c.push.new.self.items c.args.value
    (after_components of a (path_of fs) (next_of of fs)) (c.in_ok-push.ensures {u = tt}).items))
    c.read_components.ensures.asked
