use Rattle.proof_asn1.proofs.items.Judged.{allowed_to, judged}
use Rattle.proof_asn1.proofs.items.judges_the_items.Goals as goal

pub returns-clause-module : goal.returns-clause-module
returns-clause-module c = allowed_to

pub returns-clause-fault : goal.returns-clause-fault
returns-clause-fault c = judged
