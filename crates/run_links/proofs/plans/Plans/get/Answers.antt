use Rattle.run_links.proofs.PlanLemmas.{own_shown}
use Rattle.run_links.proofs.plans.Plans.get.Goals as goal

pub returns-clause-own : goal.returns-clause-own
returns-clause-own c = own_shown c.self.inside.plans c.args.ue c.get.result c.self.invariant c.get.ensures
