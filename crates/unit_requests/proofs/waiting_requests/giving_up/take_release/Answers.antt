use Rattle.std.proofs.Common.{sym}
use Rattle.unit_requests.proofs.waiting_requests.Releases.{none_is_first, other_is_first, release_is_first}
use Rattle.unit_requests.proofs.waiting_requests.giving_up.take_release.Goals as goal

pub returns-in_default : goal.returns-in_default
returns-in_default c = λ codec. none_is_first codec c.args.queue.now c.in_default.ensures

pub returns-then-not-is_release : goal.returns-then-not-is_release
returns-then-not-is_release c = λ codec.
    other_is_first codec c.args.queue.now c.in-Some.first.now c.in-Some.ensures (sym (c.if-not-is_release.ensures codec))

pub returns : goal.returns
returns c = λ codec.
    release_is_first codec c.args.queue.now c.take.new.self c.in-Some.first.now c.take.result c.in-Some.ensures
    (sym (c.if-not-is_release.ensures codec)) c.take.ensures
