use Rattle.std.proofs.Common.{ap}
use Rattle.links.specs.link_tallies.Tallies.{key_in}
use Rattle.links.proofs.links_bag.BagLemmas.{seen_first}
use Rattle.links.proofs.links_bag.bag.Bag.least.Goals as goal

pub returns-in-Some-clause-first : goal.returns-in-Some-clause-first
returns-in-Some-clause-first c = seen_first c.self.inside.control_messages.items c.self.inside.flight c.args.self.now c.self.view_is _ (ap key_in c.in-Some.ensures)

pub returns-in-None-clause-first : goal.returns-in-None-clause-first
returns-in-None-clause-first c = seen_first c.self.inside.control_messages.items c.self.inside.flight c.args.self.now c.self.view_is _ (ap key_in c.in-None.ensures)
