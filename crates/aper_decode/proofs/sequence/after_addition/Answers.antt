use Rattle.aper_values.specs.Views.{view}
use Rattle.aper_defs.specs.Asking.{ask_additions}
use Rattle.aper_values.specs.types.Types.{parts_of}
use Rattle.aper_frames.specs.Frames.{addition_after, additions_left, after_additions, path_of, next_of}
use Rattle.aper_frames.proofs.Onward.{steps_as}
use Rattle.aper_decode.proofs.SequenceSteps.{option_put}
use Rattle.aper_decode.proofs.sequence.after_addition.Goals as goal

pub returns-clause-asked : goal.returns-clause-asked
returns-clause-asked c =
    let fs = c.args.frames.now in
    let a = c.args.additions in
    steps_as c.next_addition.result (λ of. addition_after of a (path_of fs) (next_of of fs) (view c.args.value))
    (λ of. additions_left of (record a { made = c.push.new.self }) (path_of fs) (next_of of fs))
    c.args.cursor.now c.next_addition.new.cursor c.next_addition.new.frames
    (λ of. option_put (λ J. ask_additions (path_of fs) (parts_of of a.left.now) a.there J) a.made.items c.push.new.self.items c.args.value
    (after_additions a (next_of of fs)) (c.in_ok-push.ensures {u = tt}).items)
    c.next_addition.ensures.asked
