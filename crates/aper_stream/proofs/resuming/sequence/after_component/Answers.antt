use Rattle.aper_values.specs.Views.{view}
use Rattle.aper_defs.specs.Asking.{ask_components}
use Rattle.aper_values.specs.types.Types.{parts_of}
use Rattle.aper_frames.specs.Frames.{component_after, components_left, after_components, path_of, next_of}
use Rattle.aper_decode.proofs.SequenceSteps.{option_put}
use Rattle.aper_stream.proofs.resuming.Leading.{leads_as}
use Rattle.aper_stream.proofs.resuming.sequence.after_component.Goals as goal

pub returns-clause-asked : goal.returns-clause-asked
returns-clause-asked c =
    let fs = c.args.frames.now in
    let a = c.args.components in
    leads_as c.next_component.result (λ of. component_after of a (path_of fs) (next_of of fs) (view c.args.value))
    (λ of. components_left of (record a { made = c.push.new.self }) (path_of fs) (next_of of fs)) c.next_component.new.frames
    (λ of. option_put (λ J. ask_components (path_of fs) (parts_of of a.left.now) a.there J) a.made.items c.push.new.self.items c.args.value
    (after_components of a (path_of fs) (next_of of fs)) (c.in_ok-push.ensures {u = tt}).items)
    c.next_component.ensures.asked
