use Rattle.proof_asn1_modules.proofs.asn1_proof_module.Faults.{answered}
use Rattle.proof_asn1_modules.proofs.asn1_proof_module.some_answer.Goals as goal

pub returns : goal.returns
returns c = answered
