use Rattle.std.proofs.Common.{rules}
use Rattle.unit_requests.proofs.waiting_requests.Releases.{nothing_waits, others_wait, none_waits}
use Rattle.unit_requests.proofs.waiting_requests.giving_up.give_up_release.Goals as goal

pub returns-in_default : goal.returns-in_default
returns-in_default c = λ codec.
    nothing_waits codec c.requests.inside.caller c.requests.inside.waiting c.requests.inside.callee c.args.requests.now c.args.channel.now c.requests.view_is
    c.in_default.ensures.value

pub returns-then-not-is_empty : goal.returns-then-not-is_empty
returns-then-not-is_empty c = λ codec.
    others_wait codec c.requests.inside.caller c.requests.inside.waiting c.requests.inside.callee c.args.requests.now c.args.channel.now c.requests.view_is
    c.in-Some.queue.now c.take_release.new.queue c.in-Some.ensures.value (c.take_release.ensures codec) (search rules)

pub returns : goal.returns
returns c = λ codec.
    none_waits codec c.requests.inside.caller c.requests.inside.waiting c.requests.inside.callee c.args.requests.now c.args.channel.now c.requests.view_is
    c.in-Some.queue.now c.take_release.new.queue c.in-Some.ensures.value (c.take_release.ensures codec) c.take.new.self (search rules)
    c.take.ensures.rest
