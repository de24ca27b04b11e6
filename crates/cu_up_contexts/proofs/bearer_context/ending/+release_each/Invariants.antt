use Rattle.std.proofs.Common.{length}
use Rattle.cu_up_contexts.proofs.bearer_context.ending.+release_each.Given as goal

abbrev pub decreases-release_each : goal.decreases-release_each
decreases-release_each l = length l.bearers.now
