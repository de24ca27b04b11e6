use Rattle.std.proofs.Common.{◌∙◌, sym}
use Rattle.asn1_module.proofs.NamesByNumber.{elements_are, elements_below}
use Rattle.asn1_module.proofs.module.Module.element_rows.Goals as goal

pub returns-in-IeContainer-clause-rows : goal.returns-in-IeContainer-clause-rows
returns-in-IeContainer-clause-rows c =
    elements_are c.args.self.now.assignments _ _ _ c.ie_rows_of.result.now (sym c.definition.ensures.at ∙ c.in-IeContainer.is)
    c.body_of.ensures c.ie_rows_of.ensures

pub returns-in-IeContainer-clause-inside : goal.returns-in-IeContainer-clause-inside
returns-in-IeContainer-clause-inside c =
    elements_below c.args.self.now _ _ c.ie_rows_of.result.now c.definition.ensures.sound
    (sym c.definition.ensures.at ∙ c.in-IeContainer.is)
    (elements_are c.args.self.now.assignments _ _ _ c.ie_rows_of.result.now (sym c.definition.ensures.at ∙ c.in-IeContainer.is)
    c.body_of.ensures c.ie_rows_of.ensures)
