use Rattle.proof_asn1_modules.proofs.asn1_proof_module.Faults.{reading_once, fault_once, never_both}
use Rattle.proof_asn1_modules.proofs.asn1_proof_module.one_answer.Goals as goal

pub returns-clause-reading : goal.returns-clause-reading
returns-clause-reading c = reading_once

pub returns-clause-fault : goal.returns-clause-fault
returns-clause-fault c = fault_once

pub returns-clause-never_both : goal.returns-clause-never_both
returns-clause-never_both c = never_both
