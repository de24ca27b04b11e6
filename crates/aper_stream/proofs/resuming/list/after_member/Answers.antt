use Rattle.std.proofs.Common.{refl}
use Rattle.aper_stream.proofs.resuming.Members.{put_leads}
use Rattle.aper_stream.proofs.resuming.list.after_member.Goals as goal

pub returns-clause-asked : goal.returns-clause-asked
returns-clause-asked c =
    put_leads c.next_member.result c.args.members (record c.args.members { made = c.push.new.self }) c.args.value c.args.frames.now
    c.next_member.new.frames refl refl (c.in_ok-push.ensures {u = tt}).items c.next_member.ensures.asked
