use Rattle.std.proofs.Common.{◌∙◌, sym, ap}
use Rattle.std.specs.Prelude.{is_some}
use Rattle.links.proofs.links_bag.BagLemmas.{bag-land, seen_in, seen_landed, seen_fewer}
use Rattle.links.proofs.links_bag.bag.Bag.land.Goals as goal

pub returns-in_default-clause-was : goal.returns-in_default-clause-was
returns-in_default-clause-was c =
    ap is_some (sym c.in_default.is)
    ∙ seen_in c.self.inside.control_messages.items c.self.inside.flight c.args.self.now c.self.view_is c.args.number c.take.result c.take.ensures.value

pub returns-in_default-clause-landed : goal.returns-in_default-clause-landed
returns-in_default-clause-landed c =
    seen_landed c.self.inside.control_messages.items c.self.inside.flight c.args.self.now c.self.view_is c.args.number c.take.new.self c.take.ensures.rest

pub invariant_of-self-2 : goal.invariant_of-self-2
invariant_of-self-2 c =
    bag-land c.self.invariant c.take.new.self c.one_fewer.new.counts c.args.number c.in-Some.ue (sym c.in-Some.ensures.value) c.take.ensures.rest
    c.one_fewer.ensures

pub returns-clause-was : goal.returns-clause-was
returns-clause-was c =
    ap is_some (sym c.in-Some.is)
    ∙ seen_in c.self.inside.control_messages.items c.self.inside.flight c.args.self.now c.self.view_is c.args.number c.take.result c.take.ensures.value

pub returns-clause-landed : goal.returns-clause-landed
returns-clause-landed c =
    seen_landed c.self.inside.control_messages.items c.self.inside.flight c.args.self.now c.self.view_is c.args.number c.take.new.self c.take.ensures.rest

pub returns-in_default-clause-fewer : goal.returns-in_default-clause-fewer
returns-in_default-clause-fewer c =
    seen_fewer c.self.inside.control_messages.items c.self.inside.flight c.args.self.now c.self.view_is c.self.invariant c.args.number c.take.new.self c.take.ensures.rest

pub returns-clause-fewer : goal.returns-clause-fewer
returns-clause-fewer c =
    seen_fewer c.self.inside.control_messages.items c.self.inside.flight c.args.self.now c.self.view_is c.self.invariant c.args.number c.take.new.self c.take.ensures.rest
