use Rattle.asn1_module.proofs.NamesByNumber.{known_type, known_set, known_procedures}
use Rattle.asn1_module.proofs.names.is_known.Goals as goal

pub returns-in-Reference : goal.returns-in-Reference
returns-in-Reference c =
    known_type c.args.definition.now c.in-Reference.field-0 c.args.assignments.now c.args.target c.is_number_of.result c.in-Reference.is c.requires c.is_number_of.ensures

pub returns-in-IeContainer : goal.returns-in-IeContainer
returns-in-IeContainer c =
    known_set c.args.definition.now c.in-IeContainer.field-0 c.args.assignments.now c.args.target c.is_number_of-in-IeContainer.result c.in-IeContainer.is c.requires c.is_number_of-in-IeContainer.ensures

pub returns-in-Pdu : goal.returns-in-Pdu
returns-in-Pdu c =
    known_procedures c.args.definition.now c.in-Pdu.field-0 c.args.assignments.now c.args.target c.is_number_of-in-Pdu.result c.in-Pdu.is c.requires c.is_number_of-in-Pdu.ensures
