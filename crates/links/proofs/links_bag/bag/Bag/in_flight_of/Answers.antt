use Rattle.std.proofs.Common.{ap, Option, ℕ}
use Rattle.std.specs.Prelude.{unwrap_or}
use Rattle.tables.specs.Tables.{at}
use Rattle.links.proofs.links_bag.BagLemmas.{seen_terminal}
use Rattle.links.proofs.links_bag.bag.Bag.in_flight_of.Goals as goal

pub returns-in-Some : goal.returns-in-Some
unfolding at
returns-in-Some c =
    seen_terminal c.self.inside.control_messages.items c.self.inside.flight c.args.self.now c.self.view_is c.self.inside.of_terminals c.args.ue c.in-Some.count.now c.self.invariant (ap (λ (o : Option ℕ). unwrap_or o 0) c.in-Some.ensures)

pub returns-in-None : goal.returns-in-None
unfolding at
returns-in-None c =
    seen_terminal c.self.inside.control_messages.items c.self.inside.flight c.args.self.now c.self.view_is c.self.inside.of_terminals c.args.ue 0 c.self.invariant (ap (λ (o : Option ℕ). unwrap_or o 0) c.in-None.ensures)
