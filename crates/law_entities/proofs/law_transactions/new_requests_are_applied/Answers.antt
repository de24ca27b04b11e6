use Rattle.law_entities.proofs.law_transactions.CalleeLaws.{new_are_applied}
use Rattle.law_entities.proofs.law_transactions.new_requests_are_applied.Goals as goal

pub returns : goal.returns
returns c = new_are_applied
