use Rattle.unit_requests.proofs.WaitSteps.{waits_more, waits_first}
use Rattle.unit_requests.proofs.requests.Requests.wait.Goals as goal

pub returns-in-Some : goal.returns-in-Some
returns-in-Some c =
    waits_more c.self.inside.caller c.self.inside.waiting c.self.inside.callee c.args.self.now c.args.channel c.self.view_is
    c.in-Some.queue.now c.push.new.self c.args.waiting c.in-Some.ensures.value c.in_ok-push.ensures.ok

pub returns : goal.returns
returns c =
    waits_first c.self.inside.caller c.self.inside.waiting c.self.inside.callee c.args.self.now c.args.channel c.self.view_is
    c.new-queue.result c.push-2.new.self c.args.waiting c.put.new.self c.in_default.ensures.value c.new-queue.ensures c.in_ok-push-2.ensures.ok
    c.in_ok-put.ensures.ok
