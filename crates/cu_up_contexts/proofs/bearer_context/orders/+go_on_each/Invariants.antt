use Rattle.std.proofs.Common.{length}
use Rattle.cu_up_contexts.proofs.bearer_context.orders.+go_on_each.Given as goal

abbrev pub decreases-go_on_each : goal.decreases-go_on_each
decreases-go_on_each l = length l.bearers.now
