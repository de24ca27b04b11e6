use Rattle.std.proofs.Common.{◌≡◌, ◌-◌, drop}
use Rattle.transcript_check.proofs.index.queues.drop_oldest.Given as goal

abbrev pub invariant-loop : goal.invariant-loop
invariant-loop l = drop (l.items - l.counter) l.queue ≡ drop l.items l.fn.queue
