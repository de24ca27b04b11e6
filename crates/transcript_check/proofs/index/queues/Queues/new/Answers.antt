use Rattle.transcript_check.proofs.QueueLemmas.{none_stand}
use Rattle.transcript_check.proofs.index.queues.Queues.new.Goals as goal

pub returns : goal.returns
returns c = none_stand c.new.result c.new.ensures
