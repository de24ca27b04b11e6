use Rattle.std.proofs.Common.{◌∙◌}
use Rattle.aper_defs.specs.Values as seen
use Rattle.aper_frames.specs.Frames.{elements_by, path_of, next_of}
use Rattle.aper_frames.proofs.aper_elements.ContainerLemmas.{element_put}
use Rattle.aper_stream.proofs.resuming.container.after_element.Goals as goal

pub returns-clause-asked : goal.returns-clause-asked
returns-clause-asked c = λ fs of.
    let e = c.args.frame.others in
    let head = c.args.frame.head in
    element_put (λ J. elements_by of e (path_of fs) J) e.made.items c.push.new.self.items
    (record { id = head.id; criticality = head.criticality; body = c.args.value }) (λ ies. next_of of fs (seen.elements ies))
    (c.in_ok-push.ensures {u = tt}).items
    ∙ c.next_element.ensures.asked fs of
