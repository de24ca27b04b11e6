use Rattle.law_entities.proofs.pool.Isolation.{isolation}
use Rattle.law_entities.proofs.pool.keys_are_isolated.Goals as goal

pub returns : goal.returns
returns c = isolation
