use Rattle.law_entities.proofs.law_transactions.CallerLaws.{taken_once}
use Rattle.law_entities.proofs.law_transactions.replies_are_taken_once.Goals as goal

pub returns : goal.returns
returns c = taken_once
