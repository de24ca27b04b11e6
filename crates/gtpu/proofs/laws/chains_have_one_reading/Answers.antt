use Rattle.gtpu.proofs.Chains.{one_chain}
use Rattle.gtpu.proofs.laws.chains_have_one_reading.Goals as goal

pub returns : goal.returns
returns c = one_chain
