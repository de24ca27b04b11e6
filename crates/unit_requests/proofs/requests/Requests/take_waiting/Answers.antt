use Rattle.std.proofs.Common.{rules}
use Rattle.unit_requests.proofs.WaitSteps.{takes_none, takes_nothing, takes_one, takes_last}
use Rattle.unit_requests.proofs.requests.Requests.take_waiting.Goals as goal

pub returns-in_err-queue : goal.returns-in_err-queue
returns-in_err-queue c =
    rw c.from_residual.ensures
    (takes_none c.self.inside.caller c.self.inside.waiting c.self.inside.callee c.args.self.now c.args.channel.now c.self.view_is c.in_err-queue.ensures.value)

pub returns-in_err-waiting : goal.returns-in_err-waiting
returns-in_err-waiting c =
    rw c.from_residual-in_err-waiting.ensures
    (takes_nothing c.self.inside.caller c.self.inside.waiting c.self.inside.callee c.args.self.now c.args.channel.now c.self.view_is
    c.in_ok-queue.queue.now c.take.new.self c.in_ok-queue.ensures.value c.in_err-waiting.ensures c.in_ok-queue.ensures.same)

pub returns-then-not-is_empty : goal.returns-then-not-is_empty
returns-then-not-is_empty c =
    takes_one c.self.inside.caller c.self.inside.waiting c.self.inside.callee c.args.self.now c.args.channel.now c.self.view_is
    c.in_ok-queue.queue.now c.take.new.self c.in_ok-waiting.waiting c.in_ok-queue.ensures.value c.in_ok-waiting.ensures (search rules)

pub returns : goal.returns
returns c =
    takes_last c.self.inside.caller c.self.inside.waiting c.self.inside.callee c.args.self.now c.args.channel.now c.self.view_is
    c.in_ok-queue.queue.now c.take.new.self c.in_ok-waiting.waiting c.take-2.new.self c.in_ok-queue.ensures.value c.in_ok-waiting.ensures (search rules)
    c.take-2.ensures.rest
