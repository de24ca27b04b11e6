use Rattle.law_entities.proofs.law_transactions.CalleeLaws.{newest_is_greatest, last_is_kept}
use Rattle.law_entities.proofs.law_transactions.the_last_reply_is_kept.Goals as goal

pub returns-clause-newest : goal.returns-clause-newest
returns-clause-newest c = newest_is_greatest

pub returns-clause-reply : goal.returns-clause-reply
returns-clause-reply c = last_is_kept
