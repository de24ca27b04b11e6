use Rattle.std.proofs.Common.{length}
use Rattle.cu_up_contexts.proofs.bearer_context.orders.+each.Given as goal

abbrev pub decreases-each : goal.decreases-each
decreases-each l = length l.bearers.now
