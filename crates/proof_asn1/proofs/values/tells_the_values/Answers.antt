use Rattle.proof_asn1.proofs.values.ModuleTaken.{module_means}
use Rattle.proof_asn1.proofs.values.OneModule.{one_module}
use Rattle.proof_asn1.proofs.values.tells_the_values.Goals as goal

pub returns-clause-read : goal.returns-clause-read
returns-clause-read c = module_means

pub returns-clause-one : goal.returns-clause-one
returns-clause-one c = one_module
