use Rattle.proof_asn1.proofs.asn1_proof_syntax.Readings.{module_front, wrong_item}
use Rattle.proof_asn1.proofs.asn1_proof_syntax.reads_the_grammar.Goals as goal

pub returns-clause-module : goal.returns-clause-module
returns-clause-module c = module_front

pub returns-clause-fault : goal.returns-clause-fault
returns-clause-fault c = wrong_item
