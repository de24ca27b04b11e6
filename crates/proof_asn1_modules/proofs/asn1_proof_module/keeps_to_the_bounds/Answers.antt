use Rattle.proof_asn1.proofs.reading.Readings.{read_of}
use Rattle.proof_asn1_modules.proofs.asn1_proof_module.ModuleBounds.{proper}
use Rattle.proof_asn1_modules.proofs.asn1_proof_module.keeps_to_the_bounds.Goals as goal

pub returns : goal.returns
returns c text n m reads = proper text m (read_of text m reads.is)
