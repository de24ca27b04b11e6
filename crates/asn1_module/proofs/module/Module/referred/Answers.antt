use Rattle.std.proofs.Common.{◌∙◌, sym}
use Rattle.asn1_module.proofs.NamesByNumber.{referred_is, referred_below}
use Rattle.asn1_module.proofs.module.Module.referred.Goals as goal

pub returns-in-Reference-clause-target : goal.returns-in-Reference-clause-target
returns-in-Reference-clause-target c =
    referred_is c.args.self.now.assignments _ _ _ c.type_of.result (sym c.definition.ensures.at ∙ c.in-Reference.is) c.body_of.ensures
    c.type_of.ensures

pub returns-in-Reference-clause-inside : goal.returns-in-Reference-clause-inside
returns-in-Reference-clause-inside c =
    referred_below c.args.self.now _ _ c.type_of.result c.definition.ensures.sound (sym c.definition.ensures.at ∙ c.in-Reference.is)
    (referred_is c.args.self.now.assignments _ _ _ c.type_of.result (sym c.definition.ensures.at ∙ c.in-Reference.is) c.body_of.ensures
    c.type_of.ensures)
