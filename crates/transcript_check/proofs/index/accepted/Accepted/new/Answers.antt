use Rattle.transcript_check.proofs.AcceptedLemmas.{none_accepted}
use Rattle.transcript_check.proofs.index.accepted.Accepted.new.Goals as goal

pub returns : goal.returns
returns c = none_accepted (record { plans = c.new.result; offers = c.new-2.result }) c.new.ensures c.new-2.ensures
