use Rattle.std.proofs.Common.{◌≡◌, drop}
use Rattle.unit_defs.specs.Messages.{teid_of}
use Rattle.core_node.proofs.paths.CorePath.teid.Given as goal

abbrev pub invariant-loop-tunnel : goal.invariant-loop-tunnel
invariant-loop-tunnel l = teid_of (drop l.tunnel-index l.tunnel-items) l.bearer ≡ teid_of l.tunnel-items l.bearer
