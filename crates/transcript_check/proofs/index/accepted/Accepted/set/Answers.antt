use Rattle.std.proofs.Common.{sym, ◌∙◌}
use Rattle.transcript_check.proofs.AcceptedLemmas.{plan_put}
use Rattle.transcript_check.proofs.index.accepted.Accepted.set.Goals as goal

pub returns-in_ok-put-clause-plan : goal.returns-in_ok-put-clause-plan
returns-in_ok-put-clause-plan c =
    plan_put c.args.plan.now c.args.self.now.plans c.put.new.self (sym c.has.ensures ∙ c.if-not-has.true) c.in_ok-put.ensures.ok
