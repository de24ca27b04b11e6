use Rattle.std.proofs.Common.{drop, sym}
use Rattle.std.proofs.Math.Seq.{drop-nil}
use Rattle.transcript_check.proofs.QueueLemmas.{take_absent, put_present}
use Rattle.transcript_check.proofs.index.queues.Queues.shorten.Goals as goal

pub returns-in_default : goal.returns-in_default
returns-in_default c =
    take_absent c.args.link (drop c.args.items) c.args.self.now.queues c.of.result c.of.ensures (sym c.in_default.ensures.value) (drop-nil c.args.items)

pub returns : goal.returns
returns c =
    put_present c.args.link (drop c.args.items) c.args.self.now.queues c.of.result c.in-Some.queue.now c.drop_oldest.new.queue c.of.ensures
    (sym c.in-Some.ensures.value) c.drop_oldest.ensures
