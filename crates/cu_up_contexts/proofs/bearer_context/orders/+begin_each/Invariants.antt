use Rattle.std.proofs.Common.{length}
use Rattle.cu_up_contexts.proofs.bearer_context.orders.+begin_each.Given as goal

abbrev pub decreases-begin_each : goal.decreases-begin_each
decreases-begin_each l = length l.bearers.now
