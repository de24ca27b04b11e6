use Rattle.transcript_check.proofs.QueueLemmas.{emptied}
use Rattle.transcript_check.proofs.index.queues.Queues.empty.Goals as goal

pub returns : goal.returns
returns c = emptied c.args.link c.args.self.now.queues c.take.new.self c.of.result c.of.ensures c.take.ensures.rest
