use Rattle.std.proofs.Common.{sym, subst}
use Rattle.run_links.specs.inside.Plans.{AreOwn}
use Rattle.run_links.proofs.PlanLemmas.{own_put}
use Rattle.run_links.proofs.plans.Plans.put.Goals as goal

pub invariant_of-self-2 : goal.invariant_of-self-2
invariant_of-self-2 c = subst AreOwn (sym c.in_ok-put.ensures.ok) (own_put c.self.inside.plans c.args.plan c.self.invariant)
