use Rattle.std.proofs.Common.{length}
use Rattle.cu_up_contexts.proofs.bearer_context.orders.+add_each.Given as goal

abbrev pub decreases-add_each : goal.decreases-add_each
decreases-add_each l = length l.bearers.now
