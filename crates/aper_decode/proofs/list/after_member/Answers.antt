use Rattle.std.proofs.Common.{ap}
use Rattle.aper_defs.specs.Values as seen
use Rattle.aper_defs.specs.Reading.{run}
use Rattle.aper_values.specs.types.Types.{tree}
use Rattle.aper_values.specs.Views.{view}
use Rattle.aper_frames.specs.Frames.{ask_member, member_after, members_left, path_of, next_of}
use Rattle.aper_decode.proofs.ListLemmas.{member_put}
use Rattle.aper_decode.proofs.InPlace.{in_after}
use Rattle.aper_decode.proofs.list.after_member.Goals as goal

pub returns-clause-asked : goal.returns-clause-asked
returns-clause-asked c =
    let fs = c.args.frames.now in
    let m = c.args.members in
    let of = tree c.args.m.now in
    in_after c.read_members.result of (member_after of m (path_of fs) (next_of of fs) (view c.args.value))
    (members_left of (record m { made = c.push.new.self }) (path_of fs) (next_of of fs))
    c.args.cursor.now c.args.cursor.now c.read_members.new.cursor c.read_members.new.frames
    (ap (λ P. run P c.args.cursor.now)
    (member_put (ask_member of m (path_of fs)) m.left m.made.items c.push.new.self.items c.args.value (λ vs. next_of of fs (seen.list vs))
    (c.in_ok-push.ensures {u = tt}).items))
    c.read_members.ensures.asked
