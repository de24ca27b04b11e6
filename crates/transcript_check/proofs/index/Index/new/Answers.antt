use Rattle.transcript_check.proofs.IndexLemmas.{none_index}
use Rattle.transcript_check.proofs.index.Index.new.Goals as goal

pub returns : goal.returns
returns c =
    none_index (record { queues = c.new.result; messages = c.new-2.result; accepted = c.new-3.result; receipts = c.new-4.result }) c.new.ensures c.new-2.ensures
    c.new-3.ensures c.new-4.ensures.received c.new-4.ensures.delivered
