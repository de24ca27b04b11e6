use Rattle.std.proofs.Common.{◌∙◌, sym}
use Rattle.asn1_module.proofs.NamesByNumber.{messages_are, messages_below}
use Rattle.asn1_module.proofs.module.Module.message_rows.Goals as goal

pub returns-in-Pdu-clause-rows : goal.returns-in-Pdu-clause-rows
returns-in-Pdu-clause-rows c =
    messages_are c.args.self.now.assignments _ _ _ c.procedure_rows_of.result.now (sym c.definition.ensures.at ∙ c.in-Pdu.is)
    c.body_of.ensures c.procedure_rows_of.ensures

pub returns-in-Pdu-clause-inside : goal.returns-in-Pdu-clause-inside
returns-in-Pdu-clause-inside c =
    messages_below c.args.self.now _ _ c.procedure_rows_of.result.now c.definition.ensures.sound (sym c.definition.ensures.at ∙ c.in-Pdu.is)
    (messages_are c.args.self.now.assignments _ _ _ c.procedure_rows_of.result.now (sym c.definition.ensures.at ∙ c.in-Pdu.is)
    c.body_of.ensures c.procedure_rows_of.ensures)
