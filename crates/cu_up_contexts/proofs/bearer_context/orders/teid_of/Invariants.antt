use Rattle.std.proofs.Common.{◌≡◌, drop}
use Rattle.unit_defs.specs.Messages.{teid_of}
use Rattle.cu_up_contexts.proofs.bearer_context.orders.teid_of.Given as goal

abbrev pub invariant-loop-tunnel : goal.invariant-loop-tunnel
invariant-loop-tunnel l = teid_of (drop l.tunnel-index l.tunnels) l.bearer ≡ teid_of l.tunnels l.bearer
