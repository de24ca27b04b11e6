use Rattle.proof_asn1.proofs.reading.Readings.{is_text_of, is_first_wrong, read_of, fault_of}
use Rattle.proof_asn1.proofs.reading.reads_what_is_spelled.Goals as goal

pub returns-clause-module : goal.returns-clause-module
returns-clause-module c = is_text_of

pub returns-clause-only_module : goal.returns-clause-only_module
returns-clause-only_module c = read_of

pub returns-clause-fault : goal.returns-clause-fault
returns-clause-fault c = is_first_wrong

pub returns-clause-only_fault : goal.returns-clause-only_fault
returns-clause-only_fault c = fault_of
