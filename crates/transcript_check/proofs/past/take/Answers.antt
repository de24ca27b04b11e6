use Rattle.std.proofs.Common.{reverse}
use Rattle.transcript_check.proofs.CheckLemmas.{taken_index}
use Rattle.transcript_check.proofs.past.take.Goals as goal

pub invariant_of-result : goal.invariant_of-result
invariant_of-result c =
    taken_index c.args.lines c.push.new.self c.args.line c.follow.new.self c.in_ok-push.ensures.ok
    (c.in_ok-follow.ensures (reverse c.args.lines) c.requires.count c.requires.order c.requires.index)
