use Rattle.aper_stream.proofs.resuming.Members.{members_last}
use Rattle.aper_stream.proofs.resuming.list.next_member.Goals as goal

pub returns-then-members-eq0-clause-asked : goal.returns-then-members-eq0-clause-asked
returns-then-members-eq0-clause-asked c =
    λ of. members_last of c.args.members c.args.frames.now c.listed.result c.if-members-eq0.true c.listed.ensures
